-- The text of a plan, read by Intel's rules: it holds the plan's records, each with its address and its bytes, and the end record.
-- Assumes nothing.
use Rattle.std.proofs.Common.{◌≡◌, ℕ, ◌+◌, ◌-◌, ◌*◌, ◌/◌, ◌%◌, ◌<◌, ◌≤◌, true, List, [], ◌∷◌, ◌++◌, map, length, sym, refl, ap, ◌∙◌, append_assoc, arith, length-append, take_at, le-ltb, lt-ltb, eq-eqb, ne_eqb, le-leb}
use mathlib.Core.List.{flat_map, append_cancel_right, head-eq_of_cons-eq, tail-eq_of_cons-eq}
use mathlib.Core.Option.{some, bind, some-injective}
use Prim.Native.Char.{code}
use borrow.Author.Tests.{lt-leb}
use Rattle.output.specs.Ascii.{ascii}
use Rattle.output.proofs.Order.{by_order}
use Rattle.numbers.specs.declared.Letters.TheVariants.{Upper}
use Rattle.numbers.specs.Digits.{digit_char, byte_text}
use Rattle.output.specs.Lists.{Each}
use Rattle.output.proofs.Lists.{each_append}
use Rattle.hex_records.specs.Plan.{Chunk}
use Rattle.hex_records.specs.Text.{bytes_from, total, checksum, record_bytes, hex_bytes, record_text, hex_text}
use Rattle.hex_records.specs.Intel.{Record, digit_value, pairs, type_good, fields, one_record, before_first, lines, records_on, ended, records, data_record, end_record}
use Rattle.hex_records.proofs.Text.{bytes_length, bytes_small, checksum_small, sums_to_zero, record_length}

-- A digit's character has the digit's value.
pub digit_back : (d : ℕ) → d < 16 → digit_value (digit_char Upper d) ≡ some d
unfolding digit_value digit_char
digit_back d h =
    by_order d 10
    (λ l. simp (lt-ltb d 10 l, le-leb 48 (48 + d) (omega arith), le-leb (48 + d) 57 (omega arith)) (ap some (omega arith)))
    (λ l.
    let c = 65 + (d - 10) in
    simp (le-ltb d 10 l, lt-leb c 57 (omega arith), le-leb 48 c (omega arith), le-leb 65 c (omega arith), le-leb c 70 (omega arith))
    (ap some (omega arith)))

-- Bytes written as digits are read back.
pub pairs_back : (bs : List ℕ) → Each (λ b. b < 256) bs → pairs (hex_bytes bs) ≡ some bs
unfolding pairs hex_bytes flat_map byte_text bind
pairs_back [] p = refl
pairs_back (b ∷ bs) p =
    simp (digit_back (b / 16) (omega arith), digit_back (b % 16) (omega arith), pairs_back bs p.1) (ap (λ (x : ℕ). some (x ∷ bs)) (omega arith))

-- No character of a text is a newline.
abbrev pub Plain : List ℕ → Type 0
Plain t = Each (λ c. c ≡ code "\n" → ⊥) t

digit_plain : (d : ℕ) → digit_char Upper d ≡ code "\n" → ⊥
unfolding digit_char
digit_plain d e = by_order d 10 (λ l. omega (arith, rw (lt-ltb d 10 l) at e)) (λ l. omega (arith, rw (le-ltb d 10 l) at e))

-- Bytes written as digits are on one line.
pub hex_plain : (bs : List ℕ) → Plain (hex_bytes bs)
unfolding hex_bytes flat_map byte_text
hex_plain [] = tt
hex_plain (b ∷ bs) = (digit_plain (b / 16), (digit_plain (b % 16), hex_plain bs))

-- A newline ends a line.
pub lines_next : (t rest : List ℕ) → Plain t → lines (t ++ (ascii "\n" ++ rest)) ≡ t ∷ lines rest
unfolding lines before_first
lines_next [] rest p = refl
lines_next (c ∷ t) rest p = simp (ne_eqb c (code "\n") p.0, lines_next t rest p.1)

-- The last line has none behind it.
pub lines_last : (t : List ℕ) → Plain t → lines t ≡ t ∷ []
unfolding lines before_first
lines_last [] p = refl
lines_last (c ∷ t) p = simp (ne_eqb c (code "\n") p.0, lines_last t p.1)

-- A data record that has as many bytes as it says, and whose sum is 0.
fields_good : (n at sum : ℕ) (content : List ℕ) → length content ≡ n → total (n ∷ at / 256 ∷ at % 256 ∷ 0 ∷ content ++ (sum ∷ [])) % 256 ≡ 0
    → fields (n ∷ at / 256 ∷ at % 256 ∷ 0 ∷ content ++ (sum ∷ [])) ≡ some (record { record_type = 0; load_offset = at; content = content })
unfolding fields type_good
fields_good n at sum content e z =
    let offset : at / 256 * 256 + at % 256 ≡ at = omega arith in
    let many : length (content ++ (sum ∷ [])) ≡ n + 1 = length-append content (sum ∷ []) ∙ omega arith in
    simp (eq-eqb (length (content ++ (sum ∷ []))) (n + 1) many, z, take_at content (sum ∷ []) n e, offset)

-- The end record's line is read as the end record.
pub end_decodes : one_record (ascii ":00000001FF") ≡ some end_record
unfolding one_record pairs digit_value bind fields total type_good end_record
end_decodes = refl

-- Its bytes add to 0 modulo 256.
pub end_sums : total (0 ∷ 0 ∷ 0 ∷ 1 ∷ 255 ∷ []) % 256 ≡ 0
unfolding total
end_sums = refl

module _ (bytes : List ℕ) (len : ℕ) where
  -- A data record's bytes with the checksum, and its line without the newline.
  abbrev all_bytes : Chunk → List ℕ
  all_bytes c = record_bytes bytes len c ++ (checksum (record_bytes bytes len c) ∷ [])

  abbrev data_line : Chunk → List ℕ
  data_line c = ascii ":" ++ hex_bytes (all_bytes c)

  -- All bytes of a data record add to 0 modulo 256.
  pub sums : (c : Chunk) → total (record_bytes bytes len c ++ (checksum (record_bytes bytes len c) ∷ [])) % 256 ≡ 0
  sums c = sums_to_zero (record_bytes bytes len c)

  all_small : (c : Chunk) → c.address ≤ 65535 → c.count ≤ 255 → Each (λ b. b < 256) (all_bytes c)
  unfolding record_bytes
  all_small c a n =
      let bs = record_bytes bytes len c in
      let data-small = bytes_small bytes len c.from c.count in
      each_append (λ b. b < 256) bs (checksum bs ∷ []) (omega arith, (omega arith, (omega arith, (omega arith, data-small)))) (checksum_small bs, tt)

  -- A data record's line is read as the record.
  pub record_decodes : (c : Chunk) → c.address ≤ 65535 → c.count ≤ 255
      → one_record (ascii ":" ++ hex_bytes (record_bytes bytes len c ++ (checksum (record_bytes bytes len c) ∷ []))) ≡ some (data_record bytes len c)
  unfolding one_record bind data_record record_bytes
  record_decodes c a n =
      rw (pairs_back (all_bytes c) (all_small c a n)) (fields_good c.count c.address _ _ (bytes_length bytes len c.from c.count) (sums c))

  text_none : hex_text bytes len [] ≡ ascii ":00000001FF"
  unfolding hex_text flat_map
  text_none = refl

  text_next : (c : Chunk) (plan : List Chunk) → hex_text bytes len (c ∷ plan) ≡ record_text bytes len c ++ hex_text bytes len plan
  unfolding hex_text flat_map
  text_next c plan = append_assoc (record_text bytes len c) (flat_map (record_text bytes len) plan) (ascii ":00000001FF")

  lines_none : lines (hex_text bytes len []) ≡ ascii ":00000001FF" ∷ []
  lines_none = rw text_none (lines_last (ascii ":00000001FF") (omega arith))

  lines_record : (c : Chunk) (rest : List ℕ) → lines (record_text bytes len c ++ rest) ≡ data_line c ∷ lines rest
  unfolding record_text
  lines_record c rest = simp append_assoc (lines_next (data_line c) rest (λ e. omega arith, hex_plain (all_bytes c)))

  on_lines : (plan : List Chunk) → Each (λ c. (c.address ≤ 65535) × (c.count ≤ 255)) plan
      → records_on (lines (hex_text bytes len plan)) ≡ some (map (data_record bytes len) plan ++ (end_record ∷ []))
  unfolding records_on bind
  on_lines [] p = rw (lines_none, end_decodes)
  on_lines (c ∷ plan) p =
      rw (text_next c plan, lines_record c (hex_text bytes len plan), record_decodes c p.0.0 p.0.1, on_lines plan p.1)

  ends : (plan : List Chunk) → ended (map (data_record bytes len) plan ++ (end_record ∷ [])) ≡ true
  unfolding ended data_record end_record
  ends [] = refl
  ends (c ∷ []) = refl
  ends (c ∷ d ∷ plan) = ends (d ∷ plan)

  -- The text of a plan holds the plan's records and the end record, and nothing else.
  pub decodes : (plan : List Chunk) → Each (λ c. (c.address ≤ 65535) × (c.count ≤ 255)) plan
      → records (hex_text bytes len plan) ≡ some (map (data_record bytes len) plan ++ (end_record ∷ []))
  unfolding records bind
  decodes plan p = rw (on_lines plan p, ends plan)

module _ (b₁ b₂ : List ℕ) (n₁ n₂ : ℕ) where
  -- Two images have the same bytes where a chunk takes them.
  abbrev pub Same : Chunk → Type 0
  Same c = bytes_from b₁ n₁ c.from c.count ≡ bytes_from b₂ n₂ c.from c.count

  contents : (plan : List Chunk) → map (data_record b₁ n₁) plan ≡ map (data_record b₂ n₂) plan → Each Same plan
  unfolding data_record
  contents [] e = tt
  contents (c ∷ plan) e = (ap (λ (r : Record). r.content) (head-eq_of_cons-eq e), contents plan (tail-eq_of_cons-eq e))

  -- Those that have the same text have them at each chunk,
  pub same_data : (plan : List Chunk) → Each (λ c. (c.address ≤ 65535) × (c.count ≤ 255)) plan
      → hex_text b₁ n₁ plan ≡ hex_text b₂ n₂ plan → Each Same plan
  same_data plan p e =
      let found = sym (decodes b₁ n₁ plan p) ∙ ap records e ∙ decodes b₂ n₂ plan p in
      contents plan (append_cancel_right _ _ (end_record ∷ []) (some-injective _ _ found))

  same_record : (c : Chunk) → Same c → record_text b₁ n₁ c ≡ record_text b₂ n₂ c
  unfolding record_text record_bytes
  same_record c e = rw e

  -- and those that have them at each chunk have the same text.
  pub equal_text : (plan : List Chunk) → Each Same plan → hex_text b₁ n₁ plan ≡ hex_text b₂ n₂ plan
  equal_text [] e = text_none b₁ n₁ ∙ sym (text_none b₂ n₂)
  equal_text (c ∷ plan) e = rw (text_next b₁ n₁ c plan, text_next b₂ n₂ c plan, same_record c e.0, equal_text plan e.1)

  -- The texts of any two images have one length.
  pub hex_lengths : (plan : List Chunk) → length (hex_text b₁ n₁ plan) ≡ length (hex_text b₂ n₂ plan)
  hex_lengths [] = ap length (text_none b₁ n₁ ∙ sym (text_none b₂ n₂))
  hex_lengths (c ∷ plan) =
      rw (text_next b₁ n₁ c plan, text_next b₂ n₂ c plan)
      (simp length-append (omega (arith, record_length b₁ n₁ c, record_length b₂ n₂ c, hex_lengths plan)))
