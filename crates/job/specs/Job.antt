-- The bench program (document 01, "The bench program"): from the bytes of a job to the bytes that are printed.
use Rattle.std.specs.Prelude.{Bool, cond, ◌||◌, List, ◌++◌, ℕ, ◌+◌, ◌*◌, ltb, length, get_or, take, drop}
use Rattle.bitvec.specs.Size.{ceil_div}
use Rattle.output.specs.Ascii.{ascii}
use Rattle.outcome.specs.Outcome.{Outcome, text, refused}
use Rattle.numbers.specs.declared.Letters.TheVariants.{Lower}
use Rattle.numbers.specs.Digits.{number_text}
use Rattle.output.specs.Lists.{table}
use Rattle.intelhex.specs.Hex.{hex_outcome}

-- The little-endian 32-bit number at a place.
unfoldable pub word : List ℕ → ℕ → ℕ
word job at = get_or job at 0 + 256 * get_or job (at + 1) 0 + 65536 * get_or job (at + 2) 0 + 16777216 * get_or job (at + 3) 0

-- The five numbers at its front.
abbrev pub bit_length : List ℕ → ℕ
bit_length job = word job 0

abbrev pub image_at : List ℕ → ℕ
image_at job = word job 4

abbrev pub span_count : List ℕ → ℕ
span_count job = word job 8

abbrev pub table_at : List ℕ → ℕ
table_at job = word job 12

abbrev pub address_unit : List ℕ → ℕ
address_unit job = word job 16

-- What they point to: the image's ceil(bits / 8) bytes, and a row of two numbers for each span, its offset and its size.
unfoldable pub image_of : List ℕ → List ℕ
image_of job = take (ceil_div (bit_length job) 8) (drop (image_at job) job)

unfoldable pub column : List ℕ → ℕ → ℕ → List ℕ
column job at count = table (λ k. word job (at + 8 * k)) count

-- The cause of refusal 9: the job is too long, shorter than 20 bytes, or one of these parts runs past its end.
unfoldable pub bad_job : List ℕ → Bool
bad_job job =
    ltb 65536 (length job)
    || (ltb (length job) 20
    || (ltb (length job) (image_at job + ceil_div (bit_length job) 8)
    || ltb (length job) (table_at job + 8 * span_count job)))

-- Refusal 9 comes before the others. The output room is 65,536 bytes.
unfoldable pub job_outcome : List ℕ → Outcome
job_outcome job =
    cond (bad_job job) (refused 9 0)
    (hex_outcome (image_of job) (bit_length job) (column job (table_at job) (span_count job)) (column job (table_at job + 4) (span_count job)) (address_unit job) 65536)

-- The text and nothing more, or the refusal's number.
abbrev pub printed : Outcome → List ℕ
printed (text t) = t
printed (refused n v) = ascii "refused " ++ (number_text Lower 10 n ++ ascii "\n")
