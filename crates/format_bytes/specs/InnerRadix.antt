-- The number that a radix of the code stands for. No format is defined by it.
use Rattle.std.specs.Prelude.{ℕ}
use Rattle.format_bytes.specs.declared.byte_list.ByteRadix.{ByteRadix}
use Rattle.format_bytes.specs.declared.byte_list.ByteRadix.TheVariants.{Decimal, Hex}

abbrev pub radix_number : ByteRadix → ℕ
radix_number Decimal = 10
radix_number Hex = 16
