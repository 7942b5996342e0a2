-- What a record of the code stands for: a record of the plan, and its data, bytes of an image. No format is defined by it.
use Rattle.std.specs.Prelude.{ℕ, List}
use Rattle.bitvec.specs.declared.Image.{Image}
use Rattle.hex_records.specs.declared.data_record.DataRecord.{DataRecord}
use Rattle.hex_records.specs.Plan.{Chunk}
use Rattle.hex_records.specs.Text.{bytes_from}

abbrev pub chunk_of : DataRecord → Chunk
chunk_of r = record { address = r.address.0; from = r.from.0; count = r.count }

abbrev pub data_of : Image → DataRecord → List ℕ
data_of image r = bytes_from image.bytes.now image.len r.from.0 r.count
