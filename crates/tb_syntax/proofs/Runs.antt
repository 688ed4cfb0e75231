-- Runs of values and lists of names: what is read stands there, and what stands there is read.
use Rattle.std.proofs.Common.{◌≡◌, ℕ, zero, suc, ◌<◌, ◌≤◌, Bool, true, false, List, [], ◌∷◌, map, length, Option, Some, None, refl, sym, ap, subst, ◌∙◌, inl, inr, arith}
use Rattle.std.specs.List.{AllByRecursion}
use Rattle.tb_perm.specs.declared.span.Span.{Span}
use Rattle.tb_lex.specs.declared.punctuation.Punctuation.{Punctuation}
use Rattle.tb_lex.specs.declared.punctuation.Punctuation.TheVariants.{Comma}
use Rattle.tb_lex.specs.declared.token.TokenKind.TheVariants as kind
use Rattle.tb_ast.specs.declared.piece.Piece.{Piece}
use Rattle.tb_ast.specs.declared.leaf.Mark.{Mark}
use Rattle.tb_ast.specs.declared.leaf.Ident.{Ident}
use Rattle.tb_ast.specs.declared.leaf.Lifetime.{Lifetime}
use Rattle.tb_ast.specs.Pieces.{mark, ident, lifetime, separated, named, in_order}
use Rattle.tb_ast.specs.Files.{lifetime_row}
use Rattle.tb_syntax.specs.Reading.{◌>>=◌}
use Rattle.tb_syntax.specs.State.{State, Begins, Stands}
use Rattle.tb_syntax.specs.Leaves.{name_at, lifetime_at}
use Rattle.tb_syntax.specs.Lists.{Listed, IsListed, listed_at}
use Rattle.tb_syntax.specs.Repeats.{after_values, many_at, repeated_at}
use Rattle.tb_syntax.proofs.Options.{bind_some, chosen, some_is}
use Rattle.tb_syntax.proofs.Chains.{stands-then, stands-split, stands-one, one-stands}
use Rattle.tb_syntax.proofs.Marks.{alone, other-mark}
use Rattle.tb_syntax.proofs.Tokens.{token-no-mark, name-sound, name-complete, lifetime-sound, lifetime-complete}
use Rattle.tb_syntax.proofs.Listed.{begins-has, listed-sound, listed-complete}
use Rattle.tb_syntax.proofs.Named.{single}
use Rattle.tb_syntax.proofs.Rounds.{many-ends, many-one}

after_some : {A : Type 0} (x : A) (r : Option (List A × State)) (y : List A × State) → after_values (x ∷ []) r ≡ Some y → (z : List A × State) × (r ≡ Some z) × (y ≡ (x ∷ z.0, z.1))
after_some x None y e = absurd cc
after_some x (Some z) y e = (z, refl, sym (some_is (x ∷ z.0, z.1) y e))

module _ {A : Type 0} (begins : State → Bool) (one : State → Option (A × State)) (pieces : A → List Piece) (Good : A → Type 0) where
  pub record IsRun (values : List A) (state rest : State) : Type 0 where
    pub stands : Stands (in_order (map pieces values)) state rest
    pub good : AllByRecursion Good values
    pub ends : begins rest ≡ false

  module _ (one_sound : (state : State) (x : A) (rest : State) → one state ≡ Some (x, rest) → Stands (pieces x) state rest × Good x) where
    many-sound : (fuel : ℕ) (state : State) (values : List A) (rest : State) → many_at begins one fuel state ≡ Some (values, rest) → IsRun values state rest
    unfolding many_at
    many-sound zero state values rest e =
        let is : List A × State → Type 0 = λ y. IsRun y.0 state y.1 in
        elim (chosen (begins state) None (Some ([], state)) (values, rest) e) [
          | inl k ↦ let bad = k.1 in absurd cc
          | inr k ↦ subst is (some_is ([], state) (values, rest) k.1) (record { stands = refl; good = tt; ends = k.0 })
        ]
    many-sound (suc fuel) state values rest e =
        let is : List A × State → Type 0 = λ y. IsRun y.0 state y.1 in
        elim (chosen (begins state) (one state >>= λ x. after_values (x.0 ∷ []) (many_at begins one fuel x.1)) (Some ([], state)) (values, rest) e) [
          | inl k ↦
              let x = bind_some (one state) _ (values, rest) k.1 in
              let z = after_some x.0.0 (many_at begins one fuel x.0.1) (values, rest) x.2 in
              let first = one_sound state x.0.0 x.0.1 x.1 in
              let others = many-sound fuel x.0.1 z.0.0 z.0.1 z.1 in
              subst is (sym z.2) (record {
                stands = stands-then (pieces x.0.0) (in_order (map pieces z.0.0)) state x.0.1 z.0.1 first.0 others.stands;
                good = (first.1, others.good);
                ends = others.ends;
              })
          | inr k ↦ subst is (some_is ([], state) (values, rest) k.1) (record { stands = refl; good = tt; ends = k.0 })
        ]

    pub repeated-sound : (state : State) (values : List A) (rest : State) → repeated_at begins one state ≡ Some (values, rest) → IsRun values state rest
    unfolding repeated_at
    repeated-sound state values rest e = many-sound (length state) state values rest e

  module _ (one_complete : (state : State) (x : A) (rest : State) → Good x → Stands (pieces x) state rest → one state ≡ Some (x, rest))
      (begins_so : (state : State) (x : A) (rest : State) → Good x → Stands (pieces x) state rest → begins state ≡ true)
      (shorter : (state : State) (x : A) (rest : State) → Stands (pieces x) state rest → length rest < length state) where
    many-complete : (fuel : ℕ) (state : State) (values : List A) (rest : State) → length state ≤ fuel → AllByRecursion Good values → begins rest ≡ false → Stands (in_order (map pieces values)) state rest
        → many_at begins one fuel state ≡ Some (values, rest)
    many-complete fuel state [] rest few good stop h =
        let same : state ≡ rest = h in
        let at : State → Option (List A × State) = λ s. Some ([], s) in
        many-ends begins one fuel state (ap begins same ∙ stop) ∙ ap at same
    many-complete zero state (x ∷ values) rest few good stop h =
        let parts = stands-split (pieces x) (in_order (map pieces values)) state rest h in
        let less = shorter state x parts.0 parts.1 in
        absurd (omega arith)
    many-complete (suc fuel) state (x ∷ values) rest few good stop h =
        let parts = stands-split (pieces x) (in_order (map pieces values)) state rest h in
        let less = shorter state x parts.0 parts.1 in
        let others = many-complete fuel parts.0 values rest (omega arith) good.1 stop parts.2 in
        many-one begins one fuel state (begins_so state x parts.0 good.0 parts.1) ∙ rw (one_complete state x parts.0 good.0 parts.1, others) refl

    pub repeated-complete : (state : State) (values : List A) (rest : State) → AllByRecursion Good values → begins rest ≡ false → Stands (in_order (map pieces values)) state rest
        → repeated_at begins one state ≡ Some (values, rest)
    unfolding repeated_at
    repeated-complete state values rest good stop h = many-complete (length state) state values rest (omega arith) good stop h

-- Names and lifetimes with commas between them.

abbrev any : {A : Type 0} → A → Type 0
any x = Unit {0}

abbrev anywhere : {A : Type 0} → A → State → Bool
anywhere x state = true

pub all-any : {A : Type 0} (xs : List A) → AllByRecursion any xs
all-any [] = tt
all-any (x ∷ xs) = (tt, all-any xs)

module _ (close : Punctuation) where
  pub idents-take : (state : State) (y : Listed Ident × State) → listed_at name_at close state ≡ Some y → Stands (named Comma y.0.0 y.0.1) state y.1 × IsListed y.0.0 y.0.1
  idents-take state y e =
      let t = listed-sound name_at close single any (λ s x r e. (one-stands (ident x) s r (name-sound s x r e), tt)) state y.0.0 y.0.1 y.1 e in
      (t.0, t.2)

  pub idents-complete : alone close Comma ≡ true → (state : State) (names : List Ident) (marks : List Span) (closing : Mark) (middle rest : State) → IsListed names marks
      → Stands (named Comma names marks) state middle → Begins (mark close closing) middle rest → listed_at name_at close state ≡ Some ((names, marks), middle)
  idents-complete apart state names marks closing middle rest listed h last =
      listed-complete name_at close single any anywhere (λ s x r good e h. name-complete s x r (stands-one (ident x) s r h))
      (λ s x r good h. token-no-mark (kind.Name x.name) close x.span s r refl (stands-one (ident x) s r h)) (λ x good m s r h. refl)
      state names marks middle (λ x good. refl) (begins-has close closing middle rest last) (other-mark close Comma closing middle rest apart last) (all-any names) listed h

  pub lifetimes-take : (state : State) (y : Listed Lifetime × State) → listed_at lifetime_at close state ≡ Some y → Stands (separated Comma (map lifetime_row y.0.0) y.0.1) state y.1 × IsListed y.0.0 y.0.1
  lifetimes-take state y e =
      let t = listed-sound lifetime_at close lifetime_row any (λ s x r e. (one-stands (lifetime x) s r (lifetime-sound s x r e), tt)) state y.0.0 y.0.1 y.1 e in
      (t.0, t.2)

  pub lifetimes-complete : alone close Comma ≡ true → (state : State) (names : List Lifetime) (marks : List Span) (closing : Mark) (middle rest : State) → IsListed names marks
      → Stands (separated Comma (map lifetime_row names) marks) state middle → Begins (mark close closing) middle rest → listed_at lifetime_at close state ≡ Some ((names, marks), middle)
  lifetimes-complete apart state names marks closing middle rest listed h last =
      listed-complete lifetime_at close lifetime_row any anywhere (λ s x r good e h. lifetime-complete s x r (stands-one (lifetime x) s r h))
      (λ s x r good h. token-no-mark (kind.Lifetime x.name) close x.span s r refl (stands-one (lifetime x) s r h)) (λ x good m s r h. refl)
      state names marks middle (λ x good. refl) (begins-has close closing middle rest last) (other-mark close Comma closing middle rest apart last) (all-any names) listed h
