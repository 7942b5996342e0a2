-- Laws of groups of digits: what one of the groups is that are made at once, and how many these may be.
-- Assumes nothing.
use mathlib.Core.Path.{◌≡◌, ap, ◌∙◌}
use mathlib.Core.List.{List, ◌++◌, append_assoc}
use Prim.Native.Nat.{ℕ, ◌+◌, ◌-◌, ◌*◌, ◌≤◌, ◌<◌}
use native.Mathlib.Omega.{arith}
use native.Mathlib.Nat.{add-mul, mul_assoc}
use lib.ListN.{length, take, drop}
use lib.Seq.{take_at, drop_at}
use Rattle.output.proofs.Order.{stride}
use Rattle.output.specs.Writes.{Writes}
use Rattle.digits.specs.Run.{run}
use Rattle.digits.proofs.Run.{run_append, run_length}
use Rattle.digit_groups.specs.declared.groups.DigitGroups.{DigitGroups}
use Rattle.digit_groups.specs.InnerGroups.{group_of}
use Rattle.output.proofs.Parts.{front}

-- Part k of n parts of a run, in an array that starts with the run.
run_part : {l₀ l₁ : List ℕ} {r : ℕ} (bytes : List ℕ) (len w i size n k : ℕ) → k < n → n * size ≤ length l₀ → Writes (run bytes len w i (n * size)) l₀ 0 l₁ r
    → take size (drop (k * size) l₁) ≡ run bytes len w (i + k * size * w) size
run_part {l₀} bytes len w i size n k h room p =
    let here = k * size in
    let more = n * size - (here + size) in
    let before = run bytes len w i here in
    let part = run bytes len w (i + here * w) size in
    let behind = run bytes len w (i + (here + size) * w) more in
    let rest = drop (length (run bytes len w i (n * size))) l₀ in
    let all : n * size ≡ here + size + more = omega (arith, stride k n size h) in
    let split : run bytes len w i (n * size) ≡ (before ++ part) ++ behind =
    ap (run bytes len w i) all ∙ run_append bytes len w i (here + size) more ∙ ap (λ (t : List ℕ). t ++ behind) (run_append bytes len w i here size) in
    let text = p.stored
    ∙ front l₀ (run bytes len w i (n * size)) (omega (arith, room, run_length bytes len w i (n * size)))
    ∙ ap (λ (t : List ℕ). t ++ rest) split
    ∙ append_assoc (before ++ part) behind rest
    ∙ append_assoc before part (behind ++ rest) in
    ap (λ (t : List ℕ). take size (drop here t)) text
    ∙ ap (take size) (drop_at before (part ++ (behind ++ rest)) here (run_length bytes len w i here))
    ∙ take_at part (behind ++ rest) size (run_length bytes len w (i + here * w) size)

-- The digits of group j of n groups from group k on, in an array that starts with the digits of all.
pub group_made : {l₀ l₁ : List ℕ} {r : ℕ} (g : DigitGroups) (k n j : ℕ) → j < n → n * g.size ≤ length l₀
    → Writes (run g.image.bytes.now g.image.len g.width.bits (g.from.0 + k * (g.size * g.width.bits)) (n * g.size)) l₀ 0 l₁ r
    → take g.size (drop (j * g.size) l₁) ≡ group_of g (k + j)
group_made g k n j h room p =
    let w = g.width.bits in
    let i = g.from.0 + k * (g.size * w) in
    let place : i + j * g.size * w ≡ g.from.0 + (k + j) * (g.size * w) = omega (arith, mul_assoc j g.size w, add-mul k j (g.size * w)) in
    run_part g.image.bytes.now g.image.len w i g.size n j h room p
    ∙ ap (λ (x : ℕ). run g.image.bytes.now g.image.len w x g.size) place
