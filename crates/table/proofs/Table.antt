-- The proved table: each row's outcome is the text that document 01 prints. The definitions compute, and one theorem says it of all rows.
-- Assumes nothing.
use mathlib.Core.Path.{◌≡◌, refl}
use mathlib.Core.List.{map, flat_map}
use Rattle.bitvec.specs.Bits.{bit_at, bits_at}
use Rattle.bitvec.specs.Size.{bad_size, ceil_div}
use Rattle.output.specs.Ascii.{ascii}
use Rattle.output.specs.Pieces.{pieces, leading, joined, every}
use Rattle.outcome.specs.Outcome.{text, outside, too_long}
use Rattle.numbers.specs.Digits.{digit_char, byte_text}
use Rattle.digits.specs.Run.{digit_at, run, short_digit, hex_line, line_text}
use Rattle.image_parts.specs.Parts.{part_bits}
use Rattle.digits.specs.Bytes.{base_bits}
use Rattle.output.specs.Lists.{table as numbered, first}
use Rattle.ordering.specs.Order.{put_in, ordered, rank, in_order}
use Rattle.span_list.specs.Range.{long_list, bad_span, fault_at}
use Rattle.blocks.specs.Blocks.{present, closed, running, blocks_in, blocks_of}
use Rattle.hex_records.specs.Plan.{chunk_at, block_plan, hex_plan, too_high}
use Rattle.hex_records.specs.Text.{bytes_from, total, checksum, record_bytes, hex_bytes, record_text, hex_text}
use Rattle.intelhex.specs.Hex.{plan_outcome, hex_outcome}
use Rattle.format_plain.specs.Str.{str_text, str_outcome}
use Rattle.format_readmem.specs.Readmem.{line_at, readmem_text, readmem_outcome}
use Rattle.format_list.specs.List.{group_text, between_groups, list_text, bad_list, list_outcome}
use Rattle.format_logisim.specs.Logisim.{chunk_text, logisim_text, logisim_outcome}
use Rattle.table.specs.Table.{Row, rows}

pub table : map (λ (r : Row). r.given) rows ≡ map (λ (r : Row). text (ascii r.printed)) rows
unfolding bit_at bits_at bad_size ceil_div digit_char byte_text flat_map numbered first put_in ordered rank in_order present closed running blocks_in blocks_of long_list bad_span fault_at chunk_at block_plan hex_plan too_high bytes_from total checksum record_bytes hex_bytes record_text hex_text plan_outcome hex_outcome pieces leading joined every outside digit_at run short_digit hex_line part_bits base_bits str_text str_outcome line_text line_at readmem_text readmem_outcome too_long group_text between_groups list_text bad_list list_outcome chunk_text logisim_text logisim_outcome
table = refl
