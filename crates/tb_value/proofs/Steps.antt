-- One more turn of the loops that put bytes.
use Rattle.std.proofs.Common.{◌≡◌, refl, sym, ◌∙◌, ap, ℕ, suc, ◌+◌, ◌-◌, ◌/◌, ◌%◌, ◌<◌, true, List, [], ◌∷◌, ◌++◌, length, drop, get_or, drop-cons, append_assoc, Option, None, option_map, arith}
use Rattle.std.specs.Option.{option_or}
use Rattle.tb_perm.specs.declared.tag.Prov.{Prov}
use Rattle.tb_bytes.specs.declared.byte_val.ByteVal.{ByteVal}
use Rattle.tb_bytes.specs.declared.byte_val.ByteVal.TheVariants.{Uninit, Init}
use Rattle.tb_types.specs.Table.{TypeTable}
use Rattle.tb_layout.specs.declared.leaf.Leaf.{Leaf}
use Rattle.tb_value.specs.Numbers.{number_bytes}
use Rattle.tb_value.specs.Kinds.{kind_of}
use Rattle.tb_value.specs.Scalars.{first_uninit, is_valid}
use Rattle.tb_value.specs.Copies.{padding, leaf_bytes, uninit_in, invalid_in}

pub pad_step : (n i : ℕ) (list total : List ByteVal) → i < n → list ++ padding (n - i) ≡ total → (list ++ Uninit ∷ []) ++ padding (n - (i + 1)) ≡ total
pad_step n i list total h e =
    append_assoc list (Uninit ∷ []) (padding (n - (i + 1)))
    ∙ ap (λ k. list ++ padding k) (let f : suc (n - (i + 1)) ≡ n - i = omega arith in f) ∙ e

pub byte_step : (n i number : ℕ) (prov : Option Prov) (list total : List ByteVal) → i < n → list ++ number_bytes (n - i) number prov ≡ total
    → (list ++ Init (number % 256) prov ∷ []) ++ number_bytes (n - (i + 1)) (number / 256) prov ≡ total
byte_step n i number prov list total h e =
    append_assoc list (Init (number % 256) prov ∷ []) (number_bytes (n - (i + 1)) (number / 256) prov)
    ∙ ap (λ k. list ++ number_bytes k number prov) (let f : suc (n - (i + 1)) ≡ n - i = omega arith in f) ∙ e

-- a leaf whose bytes are all initialised
pub uninit_next : (types : TypeTable) (bytes : List ByteVal) (leaves : List Leaf) (i : ℕ) (d : Leaf) (total : Option ℕ) → i < length leaves
    → first_uninit (leaf_bytes types bytes (get_or leaves i d)) ≡ None → uninit_in types bytes (drop i leaves) ≡ total → uninit_in types bytes (drop (i + 1) leaves) ≡ total
uninit_next types bytes leaves i d total h none e =
    let leaf : Leaf = get_or leaves i d in
    ap (λ n. uninit_in types bytes (drop n leaves)) (let f : i + 1 ≡ suc i = omega arith in f)
    ∙ sym (ap (λ (place : Option ℕ). option_or (option_map (λ k. leaf.at + k) place) (uninit_in types bytes (drop (suc i) leaves))) none)
    ∙ sym (ap (uninit_in types bytes) (drop-cons leaves i d h)) ∙ e

-- a leaf whose bytes are valid
pub invalid_next : (types : TypeTable) (bytes : List ByteVal) (leaves : List Leaf) (i : ℕ) (d : Leaf) (total : Option ℕ) → i < length leaves
    → is_valid (kind_of types (get_or leaves i d).shape) (leaf_bytes types bytes (get_or leaves i d)) ≡ true → invalid_in types bytes (drop i leaves) ≡ total → invalid_in types bytes (drop (i + 1) leaves) ≡ total
invalid_next types bytes leaves i d total h valid e =
    let leaf : Leaf = get_or leaves i d in
    ap (λ n. invalid_in types bytes (drop n leaves)) (let f : i + 1 ≡ suc i = omega arith in f)
    ∙ sym (rw valid refl)
    ∙ sym (ap (invalid_in types bytes) (drop-cons leaves i d h)) ∙ e
