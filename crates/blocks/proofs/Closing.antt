-- The pass that makes blocks, halfway: some blocks are closed and stored, one is running, and the spans at the places `rest` are still to come.
-- Assumes nothing.
use mathlib.Core.Path.{◌≡◌, refl, sym, ap, ◌∙◌, subst}
use mathlib.Core.Logic.{◌≢◌}
use mathlib.Core.List.{List, [], ◌∷◌, ◌++◌, map, append_assoc}
use Prim.Native.Nat.{ℕ, ◌+◌, ◌≤◌, ◌<◌}
use native.Mathlib.Numerals.{add-one}
use native.Mathlib.Omega.{arith}
use lib.ListN.{length, get_or, drop, length-append}
use lib.Seq.{sets, drop-cons, drop-length}
use Rattle.bitvec.specs.Size.{max_bits}
use Rattle.output.proofs.Writes.{sets_append}
use Rattle.ordering.specs.Order.{absent, in_order}
use Rattle.ordering.proofs.Keys.{in_order_below}
use Rattle.output.proofs.Lists.{each_get, map_append, map_length}
use Rattle.blocks.specs.Blocks.{Block, present, closed, running, blocks_of}
use Rattle.blocks.specs.InnerStores.{Stores}
use Rattle.blocks.proofs.Running.{present_absent, present_next, present_none, running_joins, running_closes, running_last, running_first, blocks_few}

-- A place in the order is that of a span.
pub place_below : (offsets places : List ℕ) (k : ℕ) → places ≡ in_order offsets → k < length places → get_or places k 0 < length offsets
place_below offsets places k e h = each_get (λ p. p < length offsets) places k 0 (rw e (in_order_below offsets)) h

-- Numbers of more blocks, stored behind those of others.
more : (f : Block → ℕ) (a b : List Block) (at m : ℕ) (l₀ l₁ l₂ : List ℕ) → m ≡ at + length a → l₁ ≡ sets l₀ at (map f a) → l₂ ≡ sets l₁ m (map f b) → l₂ ≡ sets l₀ at (map f (a ++ b))
more f a b at m l₀ l₁ l₂ e s t =
    let behind : m ≡ at + length (map f a) = omega (arith, e, map_length f a) in
    t
    ∙ ap (λ (l : List ℕ). sets l m (map f b)) s
    ∙ ap (λ (i : ℕ). sets (sets l₀ at (map f a)) i (map f b)) behind
    ∙ sets_append (map f a) (map f b) l₀ at
    ∙ ap (sets l₀ at) (sym (map_append f a b))

-- Blocks that are stored behind others.
stores_then : {a b : List Block} {at m n : ℕ} {offsets₀ offsets₁ offsets₂ sizes₀ sizes₁ sizes₂ : List ℕ}
    → Stores a at offsets₀ offsets₁ sizes₀ sizes₁ m → Stores b m offsets₁ offsets₂ sizes₁ sizes₂ n → Stores (a ++ b) at offsets₀ offsets₂ sizes₀ sizes₂ n
stores_then {a} {b} {at} {m} s t =
    record {
      counted = omega (arith, s.counted, t.counted, length-append a b);
      offsets = more (λ b. b.offset) a b at m _ _ _ s.counted s.offsets t.offsets;
      sizes = more (λ b. b.size) a b at m _ _ _ s.counted s.sizes t.sizes;
    }

-- The blocks that are closed are stored; the others are those that come from the running block.
pub record Closing (offsets sizes rest offsets₀ sizes₀ offsets₁ sizes₁ : List ℕ) (origin size count : ℕ) : Type 0 where
  pub before : List Block
  pub stored : Stores before 0 offsets₀ offsets₁ sizes₀ sizes₁ count
  pub all : blocks_of offsets sizes ≡ before ++ running origin size (present offsets sizes rest)
  pub ends : origin + size ≤ max_bits

-- At first an empty block is running.
pub closing_first : (offsets sizes offsets₀ sizes₀ : List ℕ) → Closing offsets sizes (in_order offsets) offsets₀ sizes₀ offsets₀ sizes₀ 0 0 0
unfolding blocks_of
closing_first offsets sizes offsets₀ sizes₀ =
    record {
      before = [];
      stored = record { counted = refl; offsets = refl; sizes = refl };
      all = running_first (present offsets sizes (in_order offsets));
      ends = omega arith;
    }

module _ {offsets sizes offsets₀ sizes₀ offsets₁ sizes₁ : List ℕ} {origin size count : ℕ} where
  -- The pass before a turn, with its place first of those that are to come.
  pub closing_at : (places : List ℕ) (k : ℕ) → k < length places → Closing offsets sizes (drop k places) offsets₀ sizes₀ offsets₁ sizes₁ origin size count
      → Closing offsets sizes (get_or places k 0 ∷ drop (k + 1) places) offsets₀ sizes₀ offsets₁ sizes₁ origin size count
  closing_at places k h c =
      subst
      (λ (rest : List ℕ). Closing offsets sizes rest offsets₀ sizes₀ offsets₁ sizes₁ origin size count)
      (drop-cons places k 0 h ∙ rw (add-one k))
      c

  -- There are no more blocks than spans.
  pub closing_few : {rest : List ℕ} → Closing offsets sizes rest offsets₀ sizes₀ offsets₁ sizes₁ origin size count → count ≤ length offsets
  closing_few {rest} c =
      omega (
        arith,
        c.stored.counted,
        ap length c.all,
        length-append c.before (running origin size (present offsets sizes rest)),
        blocks_few offsets sizes,
      )

  -- A span with no offset changes nothing.
  pub closing_absent : {p : ℕ} {rest : List ℕ} → Closing offsets sizes (p ∷ rest) offsets₀ sizes₀ offsets₁ sizes₁ origin size count
      → get_or offsets p 0 ≡ absent → Closing offsets sizes rest offsets₀ sizes₀ offsets₁ sizes₁ origin size count
  closing_absent {p} {rest} c e =
      record {
        before = c.before;
        stored = c.stored;
        all = c.all ∙ ap (λ (l : List Block). c.before ++ running origin size l) (present_absent offsets sizes p rest e);
        ends = c.ends;
      }

  -- A span joins the running block.
  pub closing_joins : {p : ℕ} {rest : List ℕ} → Closing offsets sizes (p ∷ rest) offsets₀ sizes₀ offsets₁ sizes₁ origin size count
      → get_or offsets p 0 ≢ absent → get_or offsets p 0 + get_or sizes p 0 ≤ max_bits → get_or offsets p 0 ≡ origin + size
      → Closing offsets sizes rest offsets₀ sizes₀ offsets₁ sizes₁ origin (size + get_or sizes p 0) count
  closing_joins {p} {rest} c n g e =
      record {
        before = c.before;
        stored = c.stored;
        all =
            c.all
            ∙ ap
            (λ (l : List Block). c.before ++ l)
            (ap (running origin size) (present_next offsets sizes p rest n)
            ∙ running_joins origin size (record { offset = get_or offsets p 0; size = get_or sizes p 0 }) (present offsets sizes rest) e);
        ends = omega arith;
      }

  -- A span closes the running block and opens the next.
  pub closing_closes : {p next : ℕ} {rest offsets₂ sizes₂ : List ℕ} → Closing offsets sizes (p ∷ rest) offsets₀ sizes₀ offsets₁ sizes₁ origin size count
      → get_or offsets p 0 ≢ absent → get_or offsets p 0 + get_or sizes p 0 ≤ max_bits → get_or offsets p 0 ≢ origin + size
      → Stores (closed origin size []) count offsets₁ offsets₂ sizes₁ sizes₂ next
      → Closing offsets sizes rest offsets₀ sizes₀ offsets₂ sizes₂ (get_or offsets p 0) (get_or sizes p 0) next
  closing_closes {p} {rest = rest} c n g d s =
      let others = running (get_or offsets p 0) (get_or sizes p 0) (present offsets sizes rest) in
      record {
        before = c.before ++ closed origin size [];
        stored = stores_then c.stored s;
        all =
            c.all
            ∙ ap
            (λ (l : List Block). c.before ++ l)
            (ap (running origin size) (present_next offsets sizes p rest n)
            ∙ running_closes origin size (record { offset = get_or offsets p 0; size = get_or sizes p 0 }) (present offsets sizes rest) d)
            ∙ sym (append_assoc c.before (closed origin size []) others);
        ends = g;
      }

  -- After the last span the running block is all that is left: when it is closed, all are stored.
  pub closing_stores : {offsets₂ sizes₂ : List ℕ} {r : ℕ} (places : List ℕ) (k : ℕ) → k ≡ length places
      → Closing offsets sizes (drop k places) offsets₀ sizes₀ offsets₁ sizes₁ origin size count
      → Stores (closed origin size []) count offsets₁ offsets₂ sizes₁ sizes₂ r → Stores (blocks_of offsets sizes) 0 offsets₀ offsets₂ sizes₀ sizes₂ r
  closing_stores places k e c s =
      let none : present offsets sizes (drop k places) ≡ [] = rw e (ap (present offsets sizes) (drop-length places)) ∙ present_none offsets sizes in
      let all : blocks_of offsets sizes ≡ c.before ++ closed origin size [] =
      c.all ∙ ap (λ (l : List Block). c.before ++ l) (ap (running origin size) none ∙ running_last origin size) in
      rw all (stores_then c.stored s)
