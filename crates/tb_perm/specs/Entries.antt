-- The entries of the permission table in one list.
use Rattle.std.specs.Prelude.{Bool, true, false, List, [], ◌∷◌, ◌++◌, Result, Ok, Err, flat_map}
use Rattle.tb_perm.specs.declared.perm.Perm.{Perm}
use Rattle.tb_perm.specs.declared.perm.Perm.TheVariants.{Cell, Reserved, Conflicted, ReservedIm, Active, Frozen, Disabled}
use Rattle.tb_perm.specs.declared.perm.State.{State}
use Rattle.tb_perm.specs.declared.perm.Kind.{Kind}
use Rattle.tb_perm.specs.declared.perm.Kind.TheVariants.{Read, Write}
use Rattle.tb_perm.specs.declared.perm.Rel.{Rel}
use Rattle.tb_perm.specs.declared.perm.Rel.TheVariants.{Local, Foreign}
use Rattle.tb_perm.specs.declared.report.Refusal.{Refusal}
use Rattle.tb_perm.specs.declared.table.TableRow.{TableRow}
use Rattle.tb_perm.specs.Covers.{moved}

-- the permission alone
abbrev pub perm_in : Result State Refusal → Result Perm Refusal
perm_in (Ok s) = Ok s.perm
perm_in (Err refusal) = Err refusal

abbrev pub entry : Perm → Bool → Rel → Kind → TableRow
entry perm protected rel kind =
    record { perm = perm; protected = protected; rel = rel; kind = kind; moved = perm_in (moved perm protected rel kind) }

-- the four columns of a permission
abbrev pub columns : Perm → Bool → List TableRow
columns perm protected =
    entry perm protected Local Read ∷ entry perm protected Local Write ∷ entry perm protected Foreign Read ∷ entry perm protected Foreign Write ∷ []

-- each permission, first unprotected and then protected
abbrev pub entries : List TableRow
entries =
    flat_map
    (λ perm. columns perm false ++ columns perm true)
    (Cell ∷ Reserved ∷ Conflicted ∷ ReservedIm ∷ Active ∷ Frozen ∷ Disabled ∷ [])
