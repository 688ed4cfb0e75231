-- The structs that the names of a file stand for are declared.
use Rattle.std.proofs.Common.{◌≡◌, ℕ, ◌+◌, ◌<◌, ◌≤◌, Bool, true, false, if◌then◌else◌, List, [], ◌∷◌, ◌++◌, map, length, Option, Some, None, refl, ap, subst, sym, ◌∙◌, suc, arith}
use Rattle.std.specs.List.{AllByRecursion}
use Rattle.std.specs.Str.{bytes_eq, is_utf8, IsUtf8}
use Rattle.std.proofs.lemmas.Str.{IsUtf8-from_is_utf8, is_utf8-from_IsUtf8}
use Rattle.std.proofs.lemmas.List.{length-append}
use Rattle.tb_ast.specs.declared.leaf.Ident.{Ident}
use Rattle.tb_ast.specs.declared.item.Item.{Item}
use Rattle.tb_ast.specs.declared.item.ItemKind.{ItemKind}
use Rattle.tb_ast.specs.declared.item.ItemKind.TheVariants as item
use Rattle.tb_names.specs.Repeats.{foreign_names}
use Rattle.tb_lookup.specs.declared.file.Entry.{Entry}
use Rattle.tb_lookup.specs.declared.file.Counts.{Counts}
use Rattle.tb_lookup.specs.declared.file.Named.{Named}
use Rattle.tb_lookup.specs.declared.file.Named.TheVariants.{Struct, Function, Getchar}
use Rattle.tb_lookup.specs.Files.{named_in, or_named, getchar_entry, item_entries, counted, entries_from, file_names}
use Rattle.tb_types.specs.Table.{TypeTable}
use Rattle.tb_written.specs.Kept.{AreDeclared}
use Rattle.tb_structs.specs.Structs.{shown, derives_copy, items_by, declared_by, declared_items, with_items, layout_types}

if_true : {A : Type 0} (b : Bool) (x y : A) → b ≡ true → (if b then x else y) ≡ x
if_true true x y e = refl
if_true false x y e = cc

IsBelow : ℕ → Entry → Type 0
IsBelow bound entry = (number : ℕ) → entry.named ≡ Struct number → number < bound

AreBelow : ℕ → List Entry → Type 0
AreBelow bound = AllByRecursion (IsBelow bound)

both : (bound : ℕ) (one other : List Entry) → AreBelow bound one → AreBelow bound other → AreBelow bound (one ++ other)
unfolding AreBelow
both bound [] other h k = k
both bound (entry ∷ one) other h k = (h.0, both bound one other h.1 k)

outside_below : (bound : ℕ) (idents : List Ident) → AreBelow bound (map getchar_entry idents)
unfolding AreBelow IsBelow
outside_below bound [] = tt
outside_below bound (ident ∷ idents) = ((λ number e. cc), outside_below bound idents)

-- the number of the structs that an item declares
kind_below : (bound : ℕ) (counts : Counts) (copy : Bool) (kind : ItemKind) → counts.structs + length (items_by copy kind) ≤ bound → AreBelow bound (item_entries counts kind)
unfolding AreBelow IsBelow
kind_below bound counts copy (item.Use use_item) h = tt
kind_below bound counts copy (item.Struct struct_item) h = ((λ number e. (let s : counts.structs ≡ number = cc in omega arith)), tt)
kind_below bound counts copy (item.Function function) h = ((λ number e. cc), tt)
kind_below bound counts copy (item.Extern block) h = outside_below bound (foreign_names block.functions)

counted_is : (counts : Counts) (copy : Bool) (kind : ItemKind) → (counted counts kind).structs ≡ counts.structs + length (items_by copy kind)
counted_is counts copy (item.Use use_item) = omega arith
counted_is counts copy (item.Struct struct_item) = omega arith
counted_is counts copy (item.Function function) = omega arith
counted_is counts copy (item.Extern block) = omega arith

all_below : (bound : ℕ) (counts : Counts) (items : List Item) → counts.structs + length (declared_items items) ≤ bound → AreBelow bound (entries_from counts items)
unfolding AreBelow
all_below bound counts [] h = tt
all_below bound counts (one ∷ items) h =
    let copy : Bool = derives_copy one.attributes in
    let sum : length (declared_items (one ∷ items)) ≡ length (items_by copy one.kind) + length (declared_items items) = length-append (declared_by one) (declared_items items) in
    let next : (counted counts one.kind).structs ≡ counts.structs + length (items_by copy one.kind) = counted_is counts copy one.kind in
    both bound (item_entries counts one.kind) (entries_from (counted counts one.kind) items) (kind_below bound counts copy one.kind (omega arith)) (all_below bound (counted counts one.kind) items (omega arith))

found_here : (bound : ℕ) (entry : Entry) (b : Bool) (number : ℕ) → IsBelow bound entry → (if b then Some entry.named else None) ≡ Some (Struct number) → number < bound
unfolding IsBelow
found_here bound entry true number h e = (let i : entry.named ≡ Struct number = cc in h number i)
found_here bound entry false number h e = cc

found_by : (bound : ℕ) (entry : Entry) (rest : Option Named) (b : Bool) (number : ℕ) → IsBelow bound entry → (rest ≡ Some (Struct number) → number < bound) → or_named rest (if b then Some entry.named else None) ≡ Some (Struct number) → number < bound
found_by bound entry None b number h k e = found_here bound entry b number h e
found_by bound entry (Some named) b number h k e = k e

found_below : (bound : ℕ) (entries : List Entry) (name : List ℕ) (number : ℕ) → AreBelow bound entries → named_in entries name ≡ Some (Struct number) → number < bound
unfolding AreBelow
found_below bound [] name number h e = cc
found_below bound (entry ∷ entries) name number h e = found_by bound entry (named_in entries name) (bytes_eq entry.name name) number h.0 (found_below bound entries name number h.1) e

struct_below : (items : List Item) (name : List ℕ) (number : ℕ) → named_in (file_names items) name ≡ Some (Struct number) → number < 1 + length (declared_items items)
struct_below items name number e = found_below (1 + length (declared_items items)) (file_names items) name number (all_below _ _ items (omega arith)) e

pub declares : (types : TypeTable) (items : List Item) → types ≡ with_items layout_types (declared_items items) → AreDeclared types (file_names items)
declares types items e =
    let count : length types.items ≡ suc (length (declared_items items)) = ap (λ (table : TypeTable). length table.items) e in
    record {
      layout = omega arith;
      structs = λ name number found. (let below : number < 1 + length (declared_items items) = struct_below items name number found in omega arith);
    }

-- a name that is a text is shown, and no other
pub shown_text : (bytes : List ℕ) → IsUtf8 bytes → shown bytes ≡ bytes
shown_text bytes h = if_true (is_utf8 bytes) bytes [] (is_utf8-from_IsUtf8 bytes h)

no_text : (bytes : List ℕ) (b : Bool) → is_utf8 bytes ≡ b → ¬ (IsUtf8 bytes) → (if b then bytes else []) ≡ []
no_text bytes true e h = absurd (h (IsUtf8-from_is_utf8 bytes e))
no_text bytes false e h = refl

pub shown_no_text : (bytes : List ℕ) → ¬ (IsUtf8 bytes) → shown bytes ≡ []
shown_no_text bytes h = no_text bytes (is_utf8 bytes) refl h
