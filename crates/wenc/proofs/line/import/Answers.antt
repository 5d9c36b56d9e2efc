use Rattle.std.proofs.Common.{sym}
use Rattle.wenc.proofs.Full.{full_import}
use Rattle.wenc.proofs.line.import.Goals as goal

pub returns : goal.returns
returns c =
    let said = full_import c.in-Some.name.now c.in-Some.word.now c.in-Some.index.now _ c.in-Some-kind_and_index.ensures in
    rw (c.from-name.ensures, c.in_ok-from_str.ensures.ok, c.reference-ty.ensures, c.in-Some.ensures) (sym said)
