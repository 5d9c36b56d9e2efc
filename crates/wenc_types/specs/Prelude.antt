-- The names that clauses cite, re-exported from the files that define them.
pub use Rattle.wenc_types.specs.CoreTypes.{CoreType, Grouped, Module, ModuleDeclaration}
pub use Rattle.wenc_types.specs.CoreTypes.{ModuleExport, ModuleImport, ModuleOuter, ModuleRecType}
pub use Rattle.wenc_types.specs.CoreTypes.{core_type, module_declaration, module_type}
pub use Rattle.wenc_types.specs.DefinedTypes.{Borrow, Case, DefValType, Enumeration}
pub use Rattle.wenc_types.specs.DefinedTypes.{FixedLengthList, Flags, Function, Future}
pub use Rattle.wenc_types.specs.DefinedTypes.{LabelledType, ListOf, MapOf, OptionOf, Own, Primitive}
pub use Rattle.wenc_types.specs.DefinedTypes.{Record, ResultOf, Stream, Tuple, Variant, async_byte}
pub use Rattle.wenc_types.specs.DefinedTypes.{case, def_val_type, function_type, labelled_type}
pub use Rattle.wenc_types.specs.DefinedTypes.{borrowed_case, borrowed_labelled_type}
pub use Rattle.wenc_types.specs.ComponentTypes.{Aliased, ComponentDeclaration}
pub use Rattle.wenc_types.specs.ComponentTypes.{ComponentDeclarations, ComponentType, CoreTyped}
pub use Rattle.wenc_types.specs.ComponentTypes.{Declared, DefType, DefinedType, Exported}
pub use Rattle.wenc_types.specs.ComponentTypes.{FunctionType, Imported, InstanceDeclaration}
pub use Rattle.wenc_types.specs.ComponentTypes.{InstanceDeclarations, InstanceType, ResourceType}
pub use Rattle.wenc_types.specs.ComponentTypes.{Typed, and_component, and_instance, component_count}
pub use Rattle.wenc_types.specs.ComponentTypes.{component_declaration, components_of, def_type}
pub use Rattle.wenc_types.specs.ComponentTypes.{depth, each_component, each_instance}
pub use Rattle.wenc_types.specs.ComponentTypes.{instance_count, instance_declaration, instances_of}
pub use Rattle.wenc_types.specs.ComponentTypes.{no_component, no_instance}
pub use Rattle.wenc_types.specs.Declarations.{AddsDeclaration, AddsDeclared, AddsToComponent}
pub use Rattle.wenc_types.specs.Declarations.{AddsToModule, ComponentDeclares, DeclaredAs}
pub use Rattle.wenc_types.specs.Declarations.{DeclaresSome, InstanceDeclares, IsDeclaration}
pub use Rattle.wenc_types.specs.Declarations.{ModuleDeclares, NoneBegun, TypeState, component_space}
pub use Rattle.wenc_types.specs.Declarations.{indexed_outcome, instance_space, lead_of}
pub use Rattle.wenc_types.specs.Declarations.{module_space, no_counts, no_declarations, one_less}
pub use Rattle.wenc_types.specs.Declarations.{one_more, space_of_alias, space_of_kind}
pub use Rattle.wenc_types.specs.Declarations.{type_appended, type_begun, type_ended, type_given_up}
pub use Rattle.wenc_types.specs.FuncStages.{BeforeParams, RestMakesWhole, goes_on, lead_from}
pub use Rattle.wenc_types.specs.FuncStages.{params_from}
pub use Rattle.wenc_types.specs.Borrows.{unchanged_on_err}
pub use Rattle.wenc_types.specs.CoreTypeTrees.{core_type_view, module_declaration_view}
pub use Rattle.wenc_types.specs.TypeTrees.{case_view, component_declaration_view, defined_view}
pub use Rattle.wenc_types.specs.TypeTrees.{function_view, instance_declaration_view}
pub use Rattle.wenc_types.specs.TypeTrees.{labelled_type_view, type_view}
pub use Rattle.wenc_types.specs.inside.TypeState.{IsTypeState, total}
pub use Rattle.wenc_types.specs.reading.ComponentTypes.{read_component_declaration}
pub use Rattle.wenc_types.specs.reading.ComponentTypes.{read_component_type, read_exported}
pub use Rattle.wenc_types.specs.reading.ComponentTypes.{read_imported, read_instance_declaration}
pub use Rattle.wenc_types.specs.reading.ComponentTypes.{read_instance_type, read_resource_type}
pub use Rattle.wenc_types.specs.reading.ComponentTypes.{read_shallow, read_type, type_rows}
pub use Rattle.wenc_types.specs.reading.CoreTypes.{read_core_type, read_declarations}
pub use Rattle.wenc_types.specs.reading.CoreTypes.{read_module_declaration, read_open}
pub use Rattle.wenc_types.specs.reading.CoreTypes.{read_outer_type, standing_rows}
pub use Rattle.wenc_types.specs.reading.DefinedTypes.{defined_rows, read_case, read_defined}
pub use Rattle.wenc_types.specs.reading.DefinedTypes.{read_labelled_type, read_signature}
pub use Rattle.wenc_types.specs.reading.DefinedTypes.{to_function}
pub use Rattle.wenc_types.specs.laws.ComponentTypes.{component_declaration_lawful, components_serve}
pub use Rattle.wenc_types.specs.laws.ComponentTypes.{instance_declaration_lawful, instances_serve}
pub use Rattle.wenc_types.specs.laws.ComponentTypes.{one_level, type_lawful}
pub use Rattle.wenc_types.specs.laws.CoreTypes.{alike_by, composite_sees, core_type_lawful}
pub use Rattle.wenc_types.specs.laws.CoreTypes.{core_type_sees, core_type_sound, declaration_sees}
pub use Rattle.wenc_types.specs.laws.CoreTypes.{each_sees, group_sees, module_declaration_lawful}
pub use Rattle.wenc_types.specs.laws.CoreTypes.{module_declaration_sound}
pub use Rattle.wenc_types.specs.laws.Declarations.{adds_declared, component_serves, instance_serves}
pub use Rattle.wenc_types.specs.laws.Declarations.{is_declaration, is_declared, type_appended_twice}
pub use Rattle.wenc_types.specs.laws.DefinedTypes.{case_lawful, case_sound, defined_type_lawful}
pub use Rattle.wenc_types.specs.laws.DefinedTypes.{labelled_type_lawful, named_sound}
pub use Rattle.wenc_types.specs.laws.TypeTrees.{case_sees, defined_sees, named_sees, view_component}
pub use Rattle.wenc_types.specs.laws.TypeTrees.{view_instance}
pub use Rattle.wenc_types.specs.declared.counts.IndexSpace.{IndexSpace}
pub use Rattle.wenc_types.specs.declared.core_type_tree.ModuleDecl.{ModuleDecl}
pub use Rattle.wenc_types.specs.declared.defined_tree.CaseTree.{CaseTree}
pub use Rattle.wenc_types.specs.declared.encoders.func_type.FuncStage.{FuncStage}
pub use Rattle.wenc_types.specs.declared.type_tree.ComponentDecl.{ComponentDecl}
pub use Rattle.wenc_types.specs.declared.type_tree.InstanceDecl.{InstanceDecl}
pub use Rattle.wenc_types.specs.laws.TypeState.{component_has_form, instance_has_form}
