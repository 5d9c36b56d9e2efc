use Rattle.std.proofs.Common.{rules, arith, refl}
use Rattle.wenc_list.proofs.Parts.{field_taken, field_read, tool_read, no_tool, no_name, no_count, unread_name, unread_count}
use Rattle.wenc_list.specs.Producers.{IsNoTool, IsNoField}
use Rattle.wenc_list.proofs.producers.ProducersParts.next.Goals as goal

pub returns-in_err-name-clause-fault : goal.returns-in_err-name-clause-fault
returns-in_err-name-clause-fault c =
    let t : IsNoTool c.args.self.now.rest.now = no_tool c.args.self.now.rest.now c.in_err-name.ensures.found in
    search rules

pub returns-in_err-field-clause-fault : goal.returns-in_err-field-clause-fault
returns-in_err-field-clause-fault c =
    let t : IsNoField c.args.self.now.rest.now = no_name c.args.self.now.rest.now c.in_err-field.ensures.found in
    search rules

pub returns-in_err-field-clause-unread : goal.returns-in_err-field-clause-unread
returns-in_err-field-clause-unread c =
    let t = unread_name c.args.self.now.tools c.args.self.now.fields c.args.self.now.rest.now (omega arith) (omega arith) c.in_err-field.ensures.found in
    search rules

pub returns-in_err-tools-clause-fault : goal.returns-in_err-tools-clause-fault
returns-in_err-tools-clause-fault c =
    let t : IsNoField c.args.self.now.rest.now = no_count c.in_ok-field.field.now c.args.self.now.rest.now c.in_ok-field.rest.now c.in_ok-field.ensures.found c.in_err-tools.ensures.found in
    search rules

pub returns-in_err-tools-clause-unread : goal.returns-in_err-tools-clause-unread
returns-in_err-tools-clause-unread c =
    let t = unread_count c.in_ok-field.field.now c.args.self.now.tools c.args.self.now.fields c.args.self.now.rest.now c.in_ok-field.rest.now (omega arith) (omega arith) c.in_ok-field.ensures.found c.in_err-tools.ensures.found in
    search rules

pub returns-then-self-gt0-2-clause-taken : goal.returns-then-self-gt0-2-clause-taken
returns-then-self-gt0-2-clause-taken c =
    field_taken c.in_ok-field.field.now c.in_ok-tools.tools c.args.self.now.tools c.args.self.now.fields c.args.self.now.rest.now c.in_ok-field.rest.now
    c.in_ok-tools.rest.now (omega arith) (omega arith) c.in_ok-field.ensures.found c.in_ok-tools.ensures.found

pub returns-then-self-gt0-2-clause-read : goal.returns-then-self-gt0-2-clause-read
returns-then-self-gt0-2-clause-read c = (
  omega arith,
  omega arith,
  field_read c.in_ok-field.field.now c.in_ok-tools.tools c.args.self.now.rest.now c.in_ok-field.rest.now c.in_ok-tools.rest.now c.in_ok-field.ensures.found
      c.in_ok-tools.ensures.found,
)

pub returns-then-self-gt0-clause-read : goal.returns-then-self-gt0-clause-read
returns-then-self-gt0-clause-read c = (omega arith, refl, tool_read _ c.args.self.now.rest.now c.in_ok-name.rest.now c.in_ok-name.ensures.found)
