use Rattle.std.proofs.Common.{sym, ap, ◌∙◌, option_map}
use Rattle.wenc.proofs.Full.{start_said, names_said, other_said}
use Rattle.wenc.proofs.line.command_of.Goals as goal

pub returns-in-start : goal.returns-in-start
returns-in-start c = rw (start_said _ _ _ c.in-Some.ensures c.in-start.is) c.start.ensures

pub returns-in-text-3 : goal.returns-in-text-3
returns-in-text-3 c = c.append_names.ensures ∙ sym (names_said _ _ _ c.in-Some.ensures c.in-text-3.is)

pub returns-in-Some-builtin : goal.returns-in-Some-builtin
returns-in-Some-builtin c =
    let verb = c.in_default-verb in
    sym (other_said _ _ _ c.in-Some.ensures verb.not-import verb.not-export verb.not-text verb.not-text-2 verb.not-start verb.not-text-3
    ∙ ap (option_map _) (sym c.in-Some-builtin.ensures))

pub returns-in-None : goal.returns-in-None
returns-in-None c =
    let verb = c.in_default-verb in
    sym (other_said _ _ _ c.in-Some.ensures verb.not-import verb.not-export verb.not-text verb.not-text-2 verb.not-start verb.not-text-3
    ∙ ap (option_map _) (sym c.in-None.ensures))
