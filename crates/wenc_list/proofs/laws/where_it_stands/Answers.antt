use Rattle.wenc_list.proofs.Taken.{after_section, stands_at_place, stands_where_reached}
use Rattle.wenc_list.proofs.OwnBytes.{header_leaves}
use Rattle.wenc_list.proofs.laws.where_it_stands.Goals as goal

pub returns-clause-header : goal.returns-clause-header
returns-clause-header c = header_leaves

pub returns-clause-section : goal.returns-clause-section
returns-clause-section c = after_section

pub returns-clause-place : goal.returns-clause-place
returns-clause-place c = stands_at_place

pub returns-clause-reached : goal.returns-clause-reached
returns-clause-reached c = stands_where_reached
