-- The rows of document 01's table of checked examples that are marked P, in its order: what the definitions give, beside the text that
-- the paper prints.
use Rattle.std.specs.Prelude.{List, [], ◌∷◌, ℕ}
use Prim.Native.String.{String}
use Rattle.output.specs.Ascii.{ascii}
use Rattle.outcome.specs.Outcome.{Outcome}
use Rattle.intelhex.specs.Hex.{hex_outcome}
use Rattle.format_plain.specs.Str.{str_outcome}
use Rattle.format_readmem.specs.Readmem.{readmemb_outcome, readmemh_outcome}
use Rattle.format_list.specs.List.{list_outcome}
use Rattle.format_logisim.specs.Logisim.{logisim_outcome}

pub record Row : Type 0 where
  pub given : Outcome
  pub printed : String

abbrev pub row : Outcome → String → Row
row o s = record { given = o; printed = s }

-- The bits 10110, in a byte whose spare bits are set.
abbrev pub bits10110 : List ℕ
bits10110 = 0b10110111 ∷ []

-- The 12 bits abc, with spare bits that are set.
abbrev pub bits_abc : List ℕ
bits_abc = 0xab ∷ 0xcf ∷ []

-- Room for each of the texts.
abbrev pub room : ℕ
room = 256

abbrev pub rows : List Row
rows =
    -- HEX, no spans
    row (hex_outcome (0x12 ∷ []) 8 [] [] 8 room) ":00000001FF"
    -- HEX, 12 bits ABC, span 0 size 12
    ∷ row (hex_outcome bits_abc 12 (0 ∷ []) (12 ∷ []) 8 room) ":02000000ABC093\n:00000001FF"
    -- HEX, 16 bits ABCD, span 0 size 4
    ∷ row (hex_outcome (0xab ∷ 0xcd ∷ []) 16 (0 ∷ []) (4 ∷ []) 8 room) ":01000000AB54\n:00000001FF"
    -- HEX, bytes 11 22, spans (0,8) (0,0) (8,8)
    ∷ row (hex_outcome (0x11 ∷ 0x22 ∷ []) 16 (0 ∷ 0 ∷ 8 ∷ []) (8 ∷ 0 ∷ 8 ∷ []) 8 room) ":0100000011EE\n:0100010022DC\n:00000001FF"
    -- the same, spans (0,0) (0,8) (8,8)
    ∷ row (hex_outcome (0x11 ∷ 0x22 ∷ []) 16 (0 ∷ 0 ∷ 8 ∷ []) (0 ∷ 8 ∷ 8 ∷ []) 8 room) ":020000001122CB\n:00000001FF"
    -- HEX, empty image, span (524280,8)
    ∷ row (hex_outcome [] 0 (524280 ∷ []) (8 ∷ []) 8 room) ":01FFFF000001\n:00000001FF"
    -- hexstr, bits 10110
    ∷ row (str_outcome bits10110 5 4 room) "b0"
    -- readmemh width 5, bits 10110
    ∷ row (readmemh_outcome bits10110 5 5 room) "16\n"
    -- readmemb width 3, bits 10110
    ∷ row (readmemb_outcome bits10110 5 3 room) "101\n10\n"
    -- Logisim chunk 4, byte 12
    ∷ row (logisim_outcome (0x12 ∷ []) 8 4 room) "v2.0 raw\n1 \n2 "
    -- list base 16, 2 digits, `[` `,` `]`, second string empty, 12 bits abc
    ∷ row
    (list_outcome bits_abc 12 (record { base = 16; digits_per_group = 2; groups_per_group2 = 0 }) (ascii "[") (ascii "]") (ascii ",") (ascii "") room)
    "[ab,c0]"
    ∷ []
