-- Intel's Hexadecimal Object File Format Specification, as a decoder: what a reader finds in a text, with every check that the document
-- states of the 8-bit format. Written from the document's text as Debian's srecord carries it, srec_intel(5), and not from the Rust; field
-- names are the document's. It leaves open what stands between two records: here a newline.
use Rattle.std.specs.Prelude.{ℕ, ◌+◌, ◌-◌, ◌*◌, ◌%◌, Bool, false, cond, ◌&&◌, ◌||◌, List, [], ◌∷◌, length, take, ◌==◌, nat_le}
use Rattle.std.proofs.Math.Option.{Option, none, some, bind}
use Prim.Native.Char.{code}
use Rattle.hex_records.specs.Plan.{Chunk}
use Rattle.hex_records.specs.Text.{total, bytes_from}

pub record Record : Type 0 where
  pub record_type : ℕ
  pub load_offset : ℕ
  pub content : List ℕ

-- "The hexadecimal representation of binary is coded in ASCII alphanumeric characters": 0 to 9 and A to F.
unfoldable pub digit_value : ℕ → Option ℕ
digit_value c =
    cond (nat_le (code "0") c && nat_le c (code "9")) (some (c - code "0"))
    (cond (nat_le (code "A") c && nat_le c (code "F")) (some (10 + (c - code "A"))) none)

-- "For each byte value, the high-order hexadecimal digit is always the first digit of the pair."
unfoldable pub pairs : List ℕ → Option (List ℕ)
pairs [] = some []
pairs (c ∷ []) = none
pairs (c ∷ d ∷ rest) =
    bind (digit_value c) (λ high. bind (digit_value d) (λ low. bind (pairs rest) (λ bs. some ((high * 16 + low) ∷ bs))))

-- The type is Data (0), or End of File (1), whose record length and load offset are zero. The 8-bit format has no other.
unfoldable pub type_good : ℕ → ℕ → ℕ → Bool
type_good record_type recordLength load_offset =
    (record_type == 0) || (record_type == 1 && (recordLength == 0 && load_offset == 0))

-- The fields of a record: Record Length, which "specifies the number of bytes of information or data which follows the Record Type field",
-- Load Offset in two bytes, Record Type, Data and Checksum. "The sum of all the ASCII pairs in a record after converting to binary, from the
-- Record Length field to and including the Checksum field, is zero", in 8 bits.
unfoldable pub fields : List ℕ → Option Record
fields (recordLength ∷ high ∷ low ∷ record_type ∷ rest) =
    cond
    (length rest == recordLength + 1
    && (total (recordLength ∷ high ∷ low ∷ record_type ∷ rest) % 256 == 0
    && type_good record_type recordLength (high * 256 + low)))
    (some (record { record_type = record_type; load_offset = high * 256 + low; content = take recordLength rest }))
    none
fields [] = none
fields (a ∷ []) = none
fields (a ∷ b ∷ []) = none
fields (a ∷ b ∷ c ∷ []) = none

-- "Each record begins with a Record Mark field containing 0x3A, the ASCII code for the colon."
unfoldable pub one_record : List ℕ → Option Record
one_record [] = none
one_record (mark ∷ rest) = cond (mark == (code ":")) (bind (pairs rest) fields) none

-- A character before the first line.
unfoldable pub before_first : ℕ → List (List ℕ) → List (List ℕ)
before_first c [] = (c ∷ []) ∷ []
before_first c (line ∷ others) = (c ∷ line) ∷ others

-- The lines of a text, between its newlines.
unfoldable pub lines : List ℕ → List (List ℕ)
lines [] = [] ∷ []
lines (c ∷ rest) = cond (c == (code "\n")) ([] ∷ lines rest) (before_first c (lines rest))

-- A record on each line.
unfoldable pub records_on : List (List ℕ) → Option (List Record)
records_on [] = some []
records_on (line ∷ others) = bind (one_record line) (λ r. bind (records_on others) (λ rs. some (r ∷ rs)))

-- The End of File record is the last one, and the only one.
unfoldable pub ended : List Record → Bool
ended [] = false
ended (r ∷ []) = r.record_type == 1
ended (r ∷ s ∷ rest) = r.record_type == 0 && ended (s ∷ rest)

-- The records of a file.
unfoldable pub records : List ℕ → Option (List Record)
records t = bind (records_on (lines t)) (λ rs. cond (ended rs) (some rs) none)

-- What a reader finds in the text of a plan: the record that a chunk stands for, and the end record.
unfoldable pub data_record : List ℕ → ℕ → Chunk → Record
data_record bytes len c = record { record_type = 0; load_offset = c.address; content = bytes_from bytes len c.from c.count }

unfoldable pub end_record : Record
end_record = record { record_type = 1; load_offset = 0; content = [] }
