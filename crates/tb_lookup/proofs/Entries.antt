-- One more entry at the end: its name stands for it from then on.
use Rattle.std.proofs.Common.{◌≡◌, ℕ, Bool, true, false, if◌then◌else◌, List, [], ◌∷◌, ◌++◌, Option, Some, None, refl, ap, ◌∙◌}
use Rattle.std.specs.Str.{bytes_eq}
use Rattle.tb_lookup.specs.declared.file.Entry.{Entry}
use Rattle.tb_lookup.specs.declared.file.Named.{Named}
use Rattle.tb_lookup.specs.Files.{named_in, or_named}

pub or_named_if : (b : Bool) (named : Named) (old other : Option Named) → or_named (if b then Some named else old) other ≡ (if b then Some named else or_named old other)
or_named_if true named old other = refl
or_named_if false named old other = refl

pub named_in_more : (entries : List Entry) (e : Entry) (name : List ℕ) → named_in (entries ++ e ∷ []) name ≡ (if bytes_eq e.name name then Some e.named else named_in entries name)
named_in_more [] e name = refl
named_in_more (entry ∷ entries) e name =
    ap (λ named. or_named named (if bytes_eq entry.name name then Some entry.named else None)) (named_in_more entries e name)
    ∙ or_named_if (bytes_eq e.name name) e.named (named_in entries name) (if bytes_eq entry.name name then Some entry.named else None)
