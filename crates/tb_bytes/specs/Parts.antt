-- How bytes are kept: their values, which of them are initialised, and their provenances.
use Rattle.std.specs.Prelude.{◌≡◌, ℕ, Bool, true, false, List, [], ◌∷◌, length, map, replicate, Option, Some, None, ⊤}
use Rattle.tb_perm.specs.declared.tag.Prov.{Prov}
use Rattle.tb_ranges.specs.declared.run.Run.{Run}
use Rattle.tb_bytes.specs.declared.byte_val.ByteVal.{ByteVal}
use Rattle.tb_bytes.specs.declared.byte_val.ByteVal.TheVariants.{Uninit, Init}
use Rattle.tb_bytes.specs.Bytes.{is_init, prov_of}

-- the byte of a value, whether it counts, and a provenance
abbrev pub byte_of : ℕ → Bool → Option Prov → ByteVal
byte_of value true prov = Init value prov
byte_of value false prov = Uninit

-- the bytes, place by place
abbrev pub byte_list : List ℕ → List Bool → List (Option Prov) → List ByteVal
byte_list [] init provs = []
byte_list (value ∷ values) [] provs = []
byte_list (value ∷ values) (init ∷ inits) [] = []
byte_list (value ∷ values) (init ∷ inits) (prov ∷ provs) = byte_of value init prov ∷ byte_list values inits provs

-- as many places in both, and no provenance where nothing is initialised
abbrev pub IsClear : List Bool → List (Option Prov) → Type 0
IsClear [] [] = ⊤
IsClear [] (prov ∷ provs) = ⊥
IsClear (init ∷ inits) [] = ⊥
IsClear (init ∷ inits) (prov ∷ provs) = (init ≡ false → prov ≡ None) × IsClear inits provs

-- the parts have as many places, and only initialised ones have a provenance
abbrev pub AreParts : List ℕ → List Bool → List (Option Prov) → Type 0
AreParts values inits provs = (length values ≡ length inits) × IsClear inits provs

-- the bytes have the state and the provenance of one
pub record AreAlike (byte : ByteVal) (bytes : List ByteVal) : Type 0 where
  pub init : map is_init bytes ≡ replicate (length bytes) (is_init byte)
  pub prov : map prov_of bytes ≡ replicate (length bytes) (prov_of byte)

-- the provenances of the runs that have one
abbrev pub with_prov : Option Prov → List Prov → List Prov
with_prov None rest = rest
with_prov (Some prov) rest = prov ∷ rest

abbrev pub listed : List (Run (Option Prov)) → List Prov
listed [] = []
listed (run ∷ runs) = with_prov run.value (listed runs)

-- the end and the provenance of the first run that has one
abbrev pub or_first : Option Prov → ℕ → Option (ℕ × Prov) → Option (ℕ × Prov)
or_first None hi rest = rest
or_first (Some prov) hi rest = Some (hi, prov)

abbrev pub first_with : List (Run (Option Prov)) → Option (ℕ × Prov)
first_with [] = None
first_with (run ∷ runs) = or_first run.value run.hi (first_with runs)
