-- What a path names: as a type, as the struct of a struct literal, as what is called, and as what is imported.
use Rattle.std.specs.Prelude.{ℕ, Bool, true, false, ◌&&◌, if◌then◌else◌, List, [], ◌∷◌, Option, Some, None, is_some, position, nat_eq, drop, length, codes}
use Rattle.std.specs.List.{list_any, list_all, starts_with}
use Rattle.std.specs.Str.{bytes_eq}
use Rattle.tb_types.specs.declared.builtin.Builtin.TheVariants as builtin
use Rattle.tb_ast.specs.declared.leaf.Ident.{Ident}
use Rattle.tb_ast.specs.declared.item.Use.{Use}
use Rattle.tb_ast.specs.declared.item.UseGroup.{UseGroup}
use Rattle.tb_names.specs.Names.{name_of, is_among}
use Rattle.tb_names.specs.Main.{is_empty}
use Rattle.tb_lookup.specs.declared.callee.Callee.{Callee}
use Rattle.tb_lookup.specs.declared.callee.Callee.TheVariants.{Function as CalledFunction, Builtin as CalledBuiltin}
use Rattle.tb_lookup.specs.declared.ty.TypeName.{TypeName}
use Rattle.tb_lookup.specs.declared.ty.TypeName.TheVariants.{Struct as StructName, Parameter}
use Rattle.tb_lookup.specs.declared.file.Entry.{Entry}
use Rattle.tb_lookup.specs.declared.file.Named.{Named}
use Rattle.tb_lookup.specs.declared.file.Named.TheVariants.{Struct, Function, Getchar}
use Rattle.tb_lookup.specs.Files.{named_in}
use Rattle.tb_lookup.specs.Paths.{Words, words_of, followed, spelled, unrooted, in_alloc}
use Rattle.tb_lookup.specs.Builtins.{row_in, calls, alloc_calls, types}

-- Types.

-- a word that is no type parameter: a struct of the file, or a built-in type that nothing in the file hides
abbrev pub type_by : Option Named → List ℕ → Option TypeName
type_by None word = row_in types word
type_by (Some (Struct number)) word = Some (StructName number)
type_by (Some (Function number)) word = None
type_by (Some Getchar) word = None

abbrev pub type_or : Option ℕ → Option TypeName → Option TypeName
type_or None other = other
type_or (Some number) other = Some (Parameter number)

-- a type parameter hides all else
abbrev pub type_word : List Entry → Words → List ℕ → Option TypeName
type_word file parameters word = type_or (position (bytes_eq word) parameters) (type_by (named_in file word) word)

-- `Layout` may stand behind `alloc::` and `std::alloc::`, where nothing hides it
abbrev pub type_in_alloc : Words → Option TypeName
type_in_alloc words = if bytes_eq (spelled words) (codes "Layout") then Some (StructName 0) else None

abbrev pub type_name : List Entry → Words → Words → Option TypeName
type_name file parameters (word ∷ []) = type_word file parameters word
type_name file parameters words = type_in_alloc (in_alloc words)

-- Struct literals: of the structs of the file alone.

abbrev pub struct_by : Option Named → Option ℕ
struct_by (Some (Struct number)) = Some number
struct_by named = None

abbrev pub struct_word : List Entry → Words → List ℕ → Option ℕ
struct_word file parameters word = if is_among parameters word then None else struct_by (named_in file word)

abbrev pub literal_struct : List Entry → Words → Words → Option ℕ
literal_struct file parameters (word ∷ []) = struct_word file parameters word
literal_struct file parameters words = None

-- Calls.

abbrev pub or_call : Option Callee → Option Callee → Option Callee
or_call None other = other
or_call (Some call) other = Some call

-- `getchar` is known where a function outside has that name
abbrev pub is_outside : Option Named → Bool
is_outside (Some Getchar) = true
is_outside named = false

abbrev pub known_call : List Entry → Option Callee → Option Callee
known_call file (Some (CalledBuiltin builtin.Getchar)) = if is_outside (named_in file (codes "getchar")) then Some (CalledBuiltin builtin.Getchar) else None
known_call file call = call

-- the built-in call of this path
abbrev pub built_in_call : List Entry → Words → Option Callee
built_in_call file words = known_call file (or_call (row_in calls (spelled (unrooted words))) (row_in alloc_calls (spelled (in_alloc words))))

-- a function of the file hides a built-in call, and so does a struct, which is none
abbrev pub call_by : Option Named → Option Callee → Option Callee
call_by None call = call
call_by (Some (Function number)) call = Some (CalledFunction number)
call_by (Some (Struct number)) call = None
call_by (Some Getchar) call = call

-- `Layout` is hidden as the first word of a path, too
abbrev pub hides_type : List Entry → List ℕ → Bool
hides_type file word = bytes_eq word (codes "Layout") && is_some (named_in file word)

abbrev pub unless : Bool → Option Callee → Option Callee
unless hidden call = if hidden then None else call

abbrev pub call_in : List Entry → Words → Option Callee
call_in file [] = None
call_in file (word ∷ words) = if is_empty words then call_by (named_in file word) (built_in_call file (word ∷ words)) else unless (hides_type file word) (built_in_call file (word ∷ words))

-- a type parameter hides what its name begins
abbrev pub begins_with : Words → Words → Bool
begins_with parameters [] = false
begins_with parameters (word ∷ words) = is_among parameters word

abbrev pub called : List Entry → Words → Words → Option Callee
called file parameters words = if begins_with parameters words then None else call_in file words

-- Imports.

abbrev pub imports : List (List ℕ)
imports =
    codes "std::cell::Cell" ∷ codes "std::cell::UnsafeCell" ∷ codes "std::ptr" ∷ codes "std::mem" ∷ codes "std::slice"
    ∷ codes "std::mem::size_of" ∷ codes "std::mem::align_of"
    ∷ codes "core::cell::Cell" ∷ codes "core::cell::UnsafeCell" ∷ codes "core::ptr" ∷ codes "core::mem" ∷ codes "core::slice"
    ∷ codes "core::mem::size_of" ∷ codes "core::mem::align_of"
    ∷ codes "std::alloc::alloc" ∷ codes "std::alloc::dealloc" ∷ codes "std::alloc::Layout"
    ∷ codes "alloc::alloc" ∷ codes "alloc::dealloc" ∷ codes "alloc::Layout"
    ∷ []

abbrev pub is_text_among : List (List ℕ) → List ℕ → Bool
is_text_among paths text = list_any (bytes_eq text) paths

abbrev pub is_import_text : List ℕ → Bool
is_import_text text = is_text_among imports text

-- the path, or what it begins with before a `::`
abbrev pub begins_path : List ℕ → List ℕ → Bool
begins_path text path = if bytes_eq text path then true else starts_with nat_eq path text && starts_with nat_eq (drop (length text) path) (codes "::")

-- what several paths have in common
abbrev pub is_part_of : List (List ℕ) → List ℕ → Bool
is_part_of paths text = list_any (begins_path text) paths

abbrev pub are_imports : List ℕ → List Ident → Bool
are_imports text names = list_all (λ (name : Ident). is_import_text (followed text (name_of name))) names

-- each of the names in the braces makes a known path; without names the common part is known
abbrev pub is_import_of : List ℕ → Option UseGroup → Bool
is_import_of text None = is_import_text text
is_import_of text (Some group) = is_part_of imports text && are_imports text group.names

abbrev pub is_import : Use → Bool
is_import use_item = is_import_of (spelled (words_of use_item.path.segments)) use_item.group
