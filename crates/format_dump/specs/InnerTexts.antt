-- The texts of a line and of a dump, of the values that the code has for them. No format is defined by it.
use Rattle.std.specs.Prelude.{List, ℕ}
use Rattle.digits.specs.Bytes.{digit_bits}
use Rattle.format_dump.specs.declared.line.DumpLine.{DumpLine}
use Rattle.format_dump.specs.declared.Dump.{Dump}
use Rattle.format_dump.specs.Dump.{dump_line, dump_text}

-- A line, its address filled to a number of digits, and a dump.
abbrev pub written_line : DumpLine → ℕ → List ℕ
written_line l address = dump_line l.image.bytes.now l.image.len (digit_bits l.kind) l.count address l.first

abbrev pub text_of : Dump → List ℕ
text_of d = dump_text d.good.image.bytes.now d.good.image.len (digit_bits d.kind) d.count
