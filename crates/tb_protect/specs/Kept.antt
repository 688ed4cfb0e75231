-- How `Protectors` keeps its frames: the provenances of all frames in one list, the bottom frame's first,
-- the places where each frame's begin, and the guards by provenance.
use Rattle.std.specs.Prelude.{◌≡◌, ◌≢◌, ℕ, ◌≤◌, Bool, false, ◌&&◌, ◌==◌, List, [], ◌∷◌, map, reverse, length, take, drop, Option, Some, is_some, ⊤}
use Rattle.std.specs.List.{list_any}
use Rattle.std.specs.Option.{unwrap_or}
use Rattle.tb_perm.specs.declared.tag.Prov.{Prov}
use Rattle.tb_perm.specs.declared.perm.Guard.{Guard}
use Rattle.tb_perm.specs.declared.perm.Guard.TheVariants.{Free}
use Rattle.tb_protect.specs.Frames.{Guarded, Frames, is_prov}

-- a provenance as the numbers of its allocation and its tag
abbrev pub key_of : Prov → ℕ × ℕ
key_of prov = (prov.alloc.0, prov.tag.0)

abbrev pub same_key : ℕ × ℕ → ℕ × ℕ → Bool
same_key a b = a.0 == b.0 && a.1 == b.1

-- the guards by key
abbrev pub Guards : Type 0
Guards = ℕ × ℕ → Option Guard

-- how these guard a provenance
abbrev pub guard_by : Guards → Prov → Guard
guard_by guards prov = unwrap_or (guards (key_of prov)) Free

abbrev pub guarded_by : Guards → Prov → Guarded
guarded_by guards prov = record { prov = prov; guard = guard_by guards prov }

-- the provenances cut at the places, the last place first, each with its guard
abbrev pub cut_at : Guards → List ℕ → List Prov → Frames
cut_at guards [] provs = []
cut_at guards (start ∷ starts) provs = map (guarded_by guards) (drop start provs) ∷ cut_at guards starts (take start provs)

abbrev pub frames_of : Guards → List ℕ → List Prov → Frames
frames_of guards starts provs = cut_at guards (reverse starts) provs

-- the places, the last one first, fall from so many provenances to none
abbrev pub ArePlaces : List ℕ → ℕ → Type 0
ArePlaces [] count = count ≡ 0
ArePlaces (start ∷ starts) count = (start ≤ count) × ArePlaces starts start

-- no provenance stands twice
abbrev pub IsOnce : List Prov → Type 0
IsOnce [] = ⊤
IsOnce (prov ∷ provs) = (list_any (is_prov prov) provs ≡ false) × IsOnce provs

pub record IsStack (guards : Guards) (starts : List ℕ) (provs : List Prov) : Type 0 where
  pub places : ArePlaces (reverse starts) (length provs)
  pub once : IsOnce provs
  -- the guards are those of these provenances, and none is free
  pub listed : (prov : Prov) → is_some (guards (key_of prov)) ≡ list_any (is_prov prov) provs
  pub guarded : (prov : Prov) → guards (key_of prov) ≢ Some Free
