use Rattle.std.proofs.Common.{sym}
use Rattle.wenc.proofs.Full.{full_alias}
use Rattle.wenc.proofs.line.alias_export.Goals as goal

pub returns : goal.returns
returns c =
    let said = full_alias c.in-Some.instance.now c.in-Some.word.now c.in-Some.name.now _ c.in-Some-kind_and_index.ensures in
    rw (c.in_ok-name.ensures.ok, c.in_ok-debug_name.ensures.ok, c.in-Some.ensures) (sym said)
