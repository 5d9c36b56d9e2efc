-- Core modules (WebAssembly 3.0, binary format, "Modules").
use Rattle.wenc_base.specs.Piece.{Piece, byte, ◌▸◌}

-- the magic and a version
abbrev pub module_preamble : Piece
module_preamble = 0x00 ▸ 0x61 ▸ 0x73 ▸ 0x6d ▸ 0x01 ▸ 0x00 ▸ 0x00 ▸ byte 0x00
