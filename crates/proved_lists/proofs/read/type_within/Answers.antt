use Rattle.wenc_view.specs.TypeViews.{type_seen}
use Rattle.proved_lists.proofs.ReadSo.{type_given, no_type, too_deep}
use Rattle.proved_lists.proofs.read.type_within.Goals as goal

pub returns-clause-read : goal.returns-clause-read
returns-clause-read c = type_given c.args.depth_left c.args.bytes.now
    (λ t rest. c.types_are_exact.ensures.given_is_read c.args.depth_left t c.args.bytes.now rest)
    (λ x. (type_seen x.0, x.1.now)) c.type_at.result c.type_at.ensures.found

pub returns-clause-none : goal.returns-clause-none
returns-clause-none c =
    let law = c.types_are_exact.ensures in
    no_type c.args.depth_left c.args.bytes.now (λ t rest. law.read_is_given c.args.depth_left t c.args.bytes.now rest)
    (λ t rest. law.deeper c.args.depth_left t c.args.bytes.now rest) (λ x. (type_seen x.0, x.1.now)) c.type_at.result c.type_at.ensures.found

pub returns-clause-deeper : goal.returns-clause-deeper
returns-clause-deeper c =
    let law = c.types_are_exact.ensures in
    too_deep c.args.depth_left c.args.bytes.now (λ t rest. law.read_is_given c.args.depth_left t c.args.bytes.now rest)
    (λ t rest. law.deeper c.args.depth_left t c.args.bytes.now rest) (λ x. (type_seen x.0, x.1.now)) c.type_at.result c.type_at.ensures.found
