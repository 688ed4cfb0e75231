-- Places: what is read is the tokens of its tree, and the tokens of a tree are read as it.
use Rattle.std.proofs.Common.{◌≡◌, ℕ, ◌-◌, inl, inr, Bool, true, false, ◌&&◌, List, ◌∷◌, length, Some, None, refl, sym, ap, subst, ◌∙◌}
use Rattle.std.specs.Prelude.{codes}
use Rattle.tb_small.specs.Scope.{Binding}
use Rattle.tb_small.specs.declared.tree.Variable.{Variable}
use Rattle.tb_small.specs.declared.tree.Deref.{Deref}
use Rattle.tb_small.specs.declared.tree.Spot.{Spot}
use Rattle.tb_small.specs.declared.tree.Spot.TheVariants as spot
use Rattle.tb_small.specs.declared.tree.Ty.TheVariants as ty
use Rattle.tb_small.specs.Words.{after_space, begins_with, Exactly, Begins, Reads}
use Rattle.tb_small.specs.Grammar.{spanned, name_of, type_of, is_mutable, is_assigned, is_writable, may_deref, IsMeant, deref_tokens, IsDeref, spot_tokens, spot_span, IsSpot, IsTarget}
use Rattle.tb_small.specs.Reading.{◌>>=◌, eat, has_byte, variable_at, same_type, int_variable_at, deref_at, spot_at, assigned_at, written_at, target_at}
use Rattle.tb_small.proofs.Options.{bind_some, kept, chosen, some_is, both}
use Rattle.tb_small.proofs.Tokens.{token-again, opening-takes, token-byte, reads-one}
use Rattle.tb_small.proofs.Scopes.{AreNamed}
use Rattle.tb_small.proofs.Variables.{variable-takes, variable-again, mention, mention-byte, same-takes, same-again}

module _ (scope : List Binding) (size : ℕ) where
  -- a variable at the front
  abbrev pub Stands : List ℕ → Variable → List ℕ → Type 0
  Stands text found rest = Begins size text (spanned found.span (Exactly (name_of scope found.number))) rest

  -- variables of type `i32`

  pub int_variable-takes : (text : List ℕ) (found : Variable) (rest : List ℕ) → int_variable_at scope size text ≡ Some (found, rest)
      → Stands text found rest × IsMeant scope found.number × (type_of scope found.number ≡ ty.Int32)
  unfolding int_variable_at
  int_variable-takes text found rest e =
      let variable = bind_some (variable_at scope size text) _ (found, rest) e in
      let k = kept (same_type (type_of scope variable.0.0.number) ty.Int32) (Some variable.0) (found, rest) variable.2 in
      let h = variable-takes scope size text variable.0.0 variable.0.1 variable.1 in
      let at : Variable × List ℕ → Type 0 = λ y. Stands text y.0 y.1 × IsMeant scope y.0.number × (type_of scope y.0.number ≡ ty.Int32) in
      subst at (some_is variable.0 (found, rest) k.1) (h.0, h.1, same-takes (type_of scope variable.0.0.number) ty.Int32 k.0)

  pub int_variable-again : AreNamed scope → (text : List ℕ) (found : Variable) (rest : List ℕ) → IsMeant scope found.number → type_of scope found.number ≡ ty.Int32
      → Stands text found rest → int_variable_at scope size text ≡ Some (found, rest)
  unfolding int_variable_at
  int_variable-again named text found rest meant is h =
      rw (variable-again scope size text found rest named meant h, same-again (type_of scope found.number) ty.Int32 is) refl

  -- what pointers point to

  pub deref-takes : (inside : Bool) (text : List ℕ) (found : Deref) (rest : List ℕ) → deref_at scope inside size text ≡ Some (found, rest)
      → Reads size text (deref_tokens scope found) rest × IsDeref scope inside found
  unfolding deref_at
  deref-takes inside text found rest e =
      let star = bind_some (eat (codes "*") text) _ (found, rest) e in
      let variable = bind_some (variable_at scope size star.0) _ (found, rest) star.2 in
      let k = kept (may_deref inside (type_of scope variable.0.0.number)) _ (found, rest) variable.2 in
      let h = variable-takes scope size star.0 variable.0.0 variable.0.1 variable.1 in
      let at : Deref × List ℕ → Type 0 = λ y. Reads size text (deref_tokens scope y.0) y.1 × IsDeref scope inside y.0 in
      subst at (some_is _ (found, rest) k.1) ((star.0, opening-takes size (codes "*") text star.0 star.1, (variable.0.1, h.0, refl)), (sym h.0.hi, h.1, k.0))

  pub deref-again : AreNamed scope → (inside : Bool) (text : List ℕ) (found : Deref) (rest : List ℕ) → IsDeref scope inside found
      → Reads size text (deref_tokens scope found) rest → deref_at scope inside size text ≡ Some (found, rest)
  unfolding deref_at
  deref-again named inside text found rest meant h =
      let star = token-again size text (codes "*") (Some found.span.lo) None h.0 h.1 in
      let here = reads-one size h.0 (spanned found.variable.span (Exactly (name_of scope found.variable.number))) rest h.2 in
      let variable = variable-again scope size h.0 found.variable rest named meant.1 here in
      let lo : size - length (after_space text) ≡ found.span.lo = sym h.1.lo in
      let hi : size - length rest ≡ found.span.hi = sym here.hi ∙ sym meant.0 in
      rw (star, variable, meant.2) (rw (lo, hi) refl)

  pub deref-byte : (text : List ℕ) (found : Deref) (rest : List ℕ) (h : Reads size text (deref_tokens scope found) rest) → after_space text ≡ 42 ∷ h.0
  deref-byte text found rest h = token-byte size text 42 (Some found.span.lo) None h.0 h.1

  -- places of type `i32`

  pub spot-takes : (inside : Bool) (text : List ℕ) (found : Spot) (rest : List ℕ) → spot_at scope inside size text ≡ Some (found, rest)
      → Reads size text (spot_tokens scope found) rest × IsSpot scope inside found
  unfolding spot_at
  spot-takes inside text found rest e =
      let at : Spot × List ℕ → Type 0 = λ y. Reads size text (spot_tokens scope y.0) y.1 × IsSpot scope inside y.0 in
      elim (chosen (has_byte 42 text) (deref_at scope inside size text >>= λ x. Some (spot.Deref x.0, x.1)) (int_variable_at scope size text >>= λ x. Some (spot.Variable x.0, x.1)) (found, rest) e) [
        | inl k ↦
            let deref = bind_some (deref_at scope inside size text) (λ x. Some (spot.Deref x.0, x.1)) (found, rest) k.1 in
            subst at (some_is (spot.Deref deref.0.0, deref.0.1) (found, rest) deref.2) (deref-takes inside text deref.0.0 deref.0.1 deref.1)
        | inr k ↦
            let variable = bind_some (int_variable_at scope size text) (λ x. Some (spot.Variable x.0, x.1)) (found, rest) k.1 in
            let h = int_variable-takes text variable.0.0 variable.0.1 variable.1 in
            subst at (some_is (spot.Variable variable.0.0, variable.0.1) (found, rest) variable.2) ((variable.0.1, h.0, refl), (h.1, h.2))
      ]

  pub spot-again : AreNamed scope → (inside : Bool) (text : List ℕ) (found : Spot) (rest : List ℕ) → IsSpot scope inside found
      → Reads size text (spot_tokens scope found) rest → spot_at scope inside size text ≡ Some (found, rest)
  unfolding spot_at
  spot-again named inside text (spot.Deref deref) rest meant h =
      let test : has_byte 42 text ≡ true = ap (begins_with 42) (deref-byte text deref rest h) in
      rw (test, deref-again named inside text deref rest meant h) refl
  spot-again named inside text (spot.Variable variable) rest meant h =
      let here = reads-one size text (spanned variable.span (Exactly (name_of scope variable.number))) rest h in
      let test : has_byte 42 text ≡ false = mention-byte scope text variable.number rest (mention scope size text variable rest named meant.0 here) 42 refl in
      rw (test, int_variable-again named text variable rest meant.0 meant.1 here) refl

  -- a place ends with its last token
  pub spot-ends : (inside : Bool) (text : List ℕ) (found : Spot) (rest : List ℕ) → IsSpot scope inside found → Reads size text (spot_tokens scope found) rest → (spot_span found).hi ≡ size - length rest
  spot-ends inside text (spot.Deref deref) rest meant h =
      meant.0 ∙ (reads-one size h.0 (spanned deref.variable.span (Exactly (name_of scope deref.variable.number))) rest h.2).hi
  spot-ends inside text (spot.Variable variable) rest meant h =
      (reads-one size text (spanned variable.span (Exactly (name_of scope variable.number))) rest h).hi

  -- and begins with its first
  pub spot-begins : (text : List ℕ) (found : Spot) (rest : List ℕ) → Reads size text (spot_tokens scope found) rest → (spot_span found).lo ≡ size - length (after_space text)
  spot-begins text (spot.Deref deref) rest h = h.1.lo
  spot-begins text (spot.Variable variable) rest h = h.1.lo

  -- places that are assigned

  assigned-takes : (text : List ℕ) (found : Variable) (rest : List ℕ) → assigned_at scope size text ≡ Some (found, rest)
      → Stands text found rest × IsMeant scope found.number × (is_assigned (type_of scope found.number) ≡ true) × (is_mutable scope found.number ≡ true)
  unfolding assigned_at
  assigned-takes text found rest e =
      let variable = bind_some (variable_at scope size text) _ (found, rest) e in
      let number = variable.0.0.number in
      let k = kept (is_assigned (type_of scope number) && is_mutable scope number) (Some variable.0) (found, rest) variable.2 in
      let parts = both (is_assigned (type_of scope number)) (is_mutable scope number) k.0 in
      let h = variable-takes scope size text variable.0.0 variable.0.1 variable.1 in
      let at : Variable × List ℕ → Type 0 = λ y. Stands text y.0 y.1 × IsMeant scope y.0.number × (is_assigned (type_of scope y.0.number) ≡ true) × (is_mutable scope y.0.number ≡ true) in
      subst at (some_is variable.0 (found, rest) k.1) (h.0, h.1, parts.0, parts.1)

  written-takes : (inside : Bool) (text : List ℕ) (found : Deref) (rest : List ℕ) → written_at scope inside size text ≡ Some (found, rest)
      → Reads size text (deref_tokens scope found) rest × IsDeref scope inside found × (is_writable (type_of scope found.variable.number) ≡ true)
  unfolding written_at
  written-takes inside text found rest e =
      let deref = bind_some (deref_at scope inside size text) _ (found, rest) e in
      let k = kept (is_writable (type_of scope deref.0.0.variable.number)) (Some deref.0) (found, rest) deref.2 in
      let h = deref-takes inside text deref.0.0 deref.0.1 deref.1 in
      let at : Deref × List ℕ → Type 0 = λ y. Reads size text (deref_tokens scope y.0) y.1 × IsDeref scope inside y.0 × (is_writable (type_of scope y.0.variable.number) ≡ true) in
      subst at (some_is deref.0 (found, rest) k.1) (h.0, h.1, k.0)

  pub target-takes : (inside : Bool) (text : List ℕ) (found : Spot) (rest : List ℕ) → target_at scope inside size text ≡ Some (found, rest)
      → Reads size text (spot_tokens scope found) rest × IsTarget scope inside found
  unfolding target_at
  target-takes inside text found rest e =
      let at : Spot × List ℕ → Type 0 = λ y. Reads size text (spot_tokens scope y.0) y.1 × IsTarget scope inside y.0 in
      elim (chosen (has_byte 42 text) (written_at scope inside size text >>= λ x. Some (spot.Deref x.0, x.1)) (assigned_at scope size text >>= λ x. Some (spot.Variable x.0, x.1)) (found, rest) e) [
        | inl k ↦
            let deref = bind_some (written_at scope inside size text) (λ x. Some (spot.Deref x.0, x.1)) (found, rest) k.1 in
            let h = written-takes inside text deref.0.0 deref.0.1 deref.1 in
            subst at (some_is (spot.Deref deref.0.0, deref.0.1) (found, rest) deref.2) (h.0, (h.1, h.2))
        | inr k ↦
            let variable = bind_some (assigned_at scope size text) (λ x. Some (spot.Variable x.0, x.1)) (found, rest) k.1 in
            let h = assigned-takes text variable.0.0 variable.0.1 variable.1 in
            subst at (some_is (spot.Variable variable.0.0, variable.0.1) (found, rest) variable.2) ((variable.0.1, h.0, refl), (h.1, h.2, h.3))
      ]

  pub target-again : AreNamed scope → (inside : Bool) (text : List ℕ) (found : Spot) (rest : List ℕ) → IsTarget scope inside found
      → Reads size text (spot_tokens scope found) rest → target_at scope inside size text ≡ Some (found, rest)
  unfolding target_at written_at assigned_at
  target-again named inside text (spot.Deref deref) rest meant h =
      let test : has_byte 42 text ≡ true = ap (begins_with 42) (deref-byte text deref rest h) in
      rw (test, deref-again named inside text deref rest meant.0 h) (rw meant.1 refl)
  target-again named inside text (spot.Variable variable) rest meant h =
      let here = reads-one size text (spanned variable.span (Exactly (name_of scope variable.number))) rest h in
      let test : has_byte 42 text ≡ false = mention-byte scope text variable.number rest (mention scope size text variable rest named meant.0 here) 42 refl in
      rw (test, variable-again scope size text variable rest named meant.0 here) (rw (meant.1, meant.2) refl)
