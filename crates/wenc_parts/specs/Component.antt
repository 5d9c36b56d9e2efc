-- The header of a component (component model, binary format, "Component Definitions").
use Rattle.wenc_base.specs.Piece.{Piece, byte, ◌▸◌}

-- the magic, a version and a layer
abbrev pub preamble : Piece
preamble = 0x00 ▸ 0x61 ▸ 0x73 ▸ 0x6d ▸ 0x0d ▸ 0x00 ▸ 0x01 ▸ byte 0x00
