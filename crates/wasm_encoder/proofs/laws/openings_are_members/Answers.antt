use Rattle.std.proofs.Common.{[], refl, ◌++◌}
use Rattle.wenc_base.specs.Prelude.{contains_opened, given_up_is_before, rec_type, verbatim}
use Rattle.wenc_types.specs.Prelude.{CoreTyped, Declared, ModuleRecType, Typed}
use Rattle.wenc_types.specs.Prelude.{component_declaration, component_space, core_type, def_type}
use Rattle.wenc_types.specs.Prelude.{instance_declaration, instance_space, module_declaration}
use Rattle.wenc_types.specs.Prelude.{module_space}
use Rattle.wenc_types.specs.declared.counts.IndexSpace.TheVariants as spaces
use Rattle.wenc_types.specs.laws.Declarations.{type_given_up_is_before, declares_ended}
use Rattle.wasm_encoder.proofs.laws.openings_are_members.Goals as goal

pub returns-clause-given_up : goal.returns-clause-given_up
returns-clause-given_up c = λ h lead more finished. given_up_is_before h lead more finished

pub returns-clause-ended : goal.returns-clause-ended
returns-clause-ended c = λ h members lead more contains. contains_opened verbatim h (lead ++ more) members lead more refl tt contains

pub returns-clause-type_ended_in_section : goal.returns-clause-type_ended_in_section
returns-clause-type_ended_in_section c = λ section t types fits contains. contains_opened def_type section t types [] (def_type t).text refl fits contains

pub returns-clause-core_type_ended_in_section : goal.returns-clause-core_type_ended_in_section
returns-clause-core_type_ended_in_section c =
    λ section t types fits contains. contains_opened core_type section t types [] (core_type t).text refl fits contains

pub returns-clause-type_given_up : goal.returns-clause-type_given_up
returns-clause-type_given_up c = λ t sort text settled. type_given_up_is_before t sort text settled

pub returns-clause-type_ended_in_module : goal.returns-clause-type_ended_in_module
returns-clause-type_ended_in_module c = λ t g ds fits declares. declares_ended module_declaration module_space t spaces.«Type»
    (ModuleRecType g) ds (rec_type g).text refl fits refl declares

pub returns-clause-type_ended_in_component : goal.returns-clause-type_ended_in_component
returns-clause-type_ended_in_component c = λ t ty ds fits declares. declares_ended component_declaration component_space t spaces.«Type»
    (Declared (Typed ty)) ds (def_type ty).text refl fits refl declares

pub returns-clause-core_type_ended_in_component : goal.returns-clause-core_type_ended_in_component
returns-clause-core_type_ended_in_component c = λ t ty ds fits declares. declares_ended component_declaration component_space t
    spaces.CoreType (Declared (CoreTyped ty)) ds (core_type ty).text refl fits refl declares

pub returns-clause-type_ended_in_instance : goal.returns-clause-type_ended_in_instance
returns-clause-type_ended_in_instance c = λ t ty ds fits declares. declares_ended instance_declaration instance_space t spaces.«Type»
    (Typed ty) ds (def_type ty).text refl fits refl declares

pub returns-clause-core_type_ended_in_instance : goal.returns-clause-core_type_ended_in_instance
returns-clause-core_type_ended_in_instance c = λ t ty ds fits declares. declares_ended instance_declaration instance_space t spaces.CoreType
    (CoreTyped ty) ds (core_type ty).text refl fits refl declares
