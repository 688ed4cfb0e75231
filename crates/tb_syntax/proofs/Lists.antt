-- Lists: what is read stands there, and what stands there is read.
use Rattle.std.proofs.Common.{◌≡◌, ◌⊎◌, ℕ, zero, suc, ◌+◌, ◌<◌, Bool, true, false, if◌then◌else◌, List, [], ◌∷◌, map, length, Option, Some, None, refl, sym, ap, subst, ◌∙◌, inl, inr, arith}
use Rattle.std.specs.List.{AllByRecursion}
use Rattle.tb_perm.specs.declared.span.Span.{Span}
use Rattle.tb_lex.specs.declared.punctuation.Punctuation.{Punctuation}
use Rattle.tb_ast.specs.declared.piece.Piece.{Piece}
use Rattle.tb_ast.specs.Pieces.{punct, separated}
use Rattle.tb_syntax.specs.Reading.{◌>>=◌}
use Rattle.tb_syntax.specs.State.{State, Begins, Stands}
use Rattle.tb_syntax.specs.Marks.{punct_at}
use Rattle.tb_syntax.specs.Lists.{Listed, joined_lists, list_at}
use Rattle.tb_syntax.proofs.Options.{bind_some, chosen, some_is}
use Rattle.tb_syntax.proofs.Chains.{stands-then, stands-split}
use Rattle.tb_syntax.proofs.Marks.{punct-sound, punct-complete}
use Rattle.tb_syntax.proofs.Loops.{list-ends, list-last, list-more}

-- how a list ends: behind its last mark, or behind its last value
abbrev pub EndsSo : {A : Type 0} → (State → Bool) → (State → Bool) → List A → List Span → State → Type 0
EndsSo ends goes values marks rest = ((length marks ≡ length values) × (ends rest ≡ true)) ⊎ ((length marks + 1 ≡ length values) × (goes rest ≡ false))

joined_some : {A : Type 0} (x : A) (m : Span) (r : Option (Listed A × State)) (y : Listed A × State) → joined_lists (x ∷ []) (m ∷ []) r ≡ Some y
    → (z : Listed A × State) × (r ≡ Some z) × (y ≡ ((x ∷ z.0.0, m ∷ z.0.1), z.1))
joined_some x m None y e = absurd cc
joined_some x m (Some z) y e = (z, refl, sym (some_is ((x ∷ z.0.0, m ∷ z.0.1), z.1) y e))

module _ {A : Type 0} (ends : State → Bool) (one : State → Option (A × State)) (goes : State → Bool) (mark : Punctuation) (pieces : A → List Piece) (Good : A → Type 0) where
  abbrev pub spelled : List A → List Span → List Piece
  spelled values marks = separated mark (map pieces values) marks

  pub record Taken (values : List A) (marks : List Span) (state rest : State) : Type 0 where
    pub stands : Stands (spelled values marks) state rest
    pub good : AllByRecursion Good values
    pub closed : EndsSo ends goes values marks rest

  module _ (one_sound : (state : State) (x : A) (rest : State) → one state ≡ Some (x, rest) → Stands (pieces x) state rest × Good x) where
    more-taken : (state : State) (x : A) (after : State) (m : Span) (behind : State) (values : List A) (marks : List Span) (rest : State)
        → one state ≡ Some (x, after) → punct_at mark after ≡ Some (m, behind) → Taken values marks behind rest → Taken (x ∷ values) (m ∷ marks) state rest
    more-taken state x after m behind values marks rest read comma t =
        let first = one_sound state x after read in
        let second = punct-sound mark after m behind comma in
        let last : EndsSo ends goes (x ∷ values) (m ∷ marks) rest = elim t.closed [
          | inl k ↦ let same : length marks ≡ length values = k.0 in inl (omega arith, k.1)
          | inr k ↦ let same : length marks + 1 ≡ length values = k.0 in inr (omega arith, k.1)
        ] in
        record {
          stands = stands-then (pieces x) (punct mark m ∷ spelled values marks) state after rest first.0 (behind, second, t.stands);
          good = (first.1, t.good);
          closed = last;
        }

    last-taken : (state : State) (x : A) (after : State) → one state ≡ Some (x, after) → goes after ≡ false → Taken (x ∷ []) [] state after
    last-taken state x after read stop =
        let first = one_sound state x after read in
        record { stands = stands-then (pieces x) [] state after after first.0 refl; good = (first.1, tt); closed = inr (refl, stop) }

    pub list-sound : (fuel : ℕ) (state : State) (values : List A) (marks : List Span) (rest : State)
        → list_at ends one goes mark fuel state ≡ Some ((values, marks), rest) → Taken values marks state rest
    unfolding list_at
    list-sound zero state values marks rest e = absurd cc
    list-sound (suc fuel) state values marks rest e =
        let is : Listed A × State → Type 0 = λ y. Taken y.0.0 y.0.1 state y.1 in
        let others : Option (Listed A × State) = one state >>= λ x.
        if goes x.1 then (punct_at mark x.1 >>= λ m. joined_lists (x.0 ∷ []) (m.0 ∷ []) (list_at ends one goes mark fuel m.1))
        else Some ((x.0 ∷ [], []), x.1) in
        elim (chosen (ends state) (Some (([], []), state)) others ((values, marks), rest) e) [
          | inl k ↦ subst is (some_is (([], []), state) ((values, marks), rest) k.1) (record { stands = refl; good = tt; closed = inl (refl, k.0) })
          | inr k ↦
              let x = bind_some (one state) _ ((values, marks), rest) k.1 in
              elim (chosen (goes x.0.1) (punct_at mark x.0.1 >>= λ m. joined_lists (x.0.0 ∷ []) (m.0 ∷ []) (list_at ends one goes mark fuel m.1)) (Some ((x.0.0 ∷ [], []), x.0.1)) ((values, marks), rest) x.2) [
                | inl g ↦
                    let m = bind_some (punct_at mark x.0.1) _ ((values, marks), rest) g.1 in
                    let z = joined_some x.0.0 m.0.0 (list_at ends one goes mark fuel m.0.1) ((values, marks), rest) m.2 in
                    let t = list-sound fuel m.0.1 z.0.0.0 z.0.0.1 z.0.1 z.1 in
                    subst is (sym z.2) (more-taken state x.0.0 x.0.1 m.0.0 m.0.1 z.0.0.0 z.0.0.1 z.0.1 x.1 m.1 t)
                | inr g ↦ subst is (some_is ((x.0.0 ∷ [], []), x.0.1) ((values, marks), rest) g.1) (last-taken state x.0.0 x.0.1 x.1 g.0)
              ]
        ]

  -- where a list is read, it ends at once or a value is read
  abbrev pub Starts : State → Type 0
  Starts state = (ends state ≡ true) ⊎ ((x : A) × (after : State) × (one state ≡ Some (x, after)))

  list-starts : (fuel : ℕ) (state : State) (y : Listed A × State) → list_at ends one goes mark fuel state ≡ Some y → Starts state
  unfolding list_at
  list-starts zero state y e = absurd cc
  list-starts (suc fuel) state y e =
      let others : Option (Listed A × State) = one state >>= λ x.
      if goes x.1 then (punct_at mark x.1 >>= λ m. joined_lists (x.0 ∷ []) (m.0 ∷ []) (list_at ends one goes mark fuel m.1))
      else Some ((x.0 ∷ [], []), x.1) in
      elim (chosen (ends state) (Some (([], []), state)) others y e) [
        | inl k ↦ inl k.0
        | inr k ↦ let x = bind_some (one state) _ y k.1 in inr (x.0.0, x.0.1, x.1)
      ]

  module _ (free : A → State → Bool)
      (one_complete : (state : State) (x : A) (rest : State) → Good x → free x rest ≡ true → Stands (pieces x) state rest → one state ≡ Some (x, rest))
      (no_end : (state : State) (x : A) (rest : State) → Good x → Stands (pieces x) state rest → ends state ≡ false)
      (free_before : (x : A) → Good x → (m : Span) (state rest : State) → Begins (punct mark m) state rest → free x state ≡ true)
      (goes_before : (m : Span) (state rest : State) → Begins (punct mark m) state rest → Starts rest → goes state ≡ true) where
    pub list-complete : (fuel : ℕ) (values : List A) (marks : List Span) (state rest : State) → length marks < fuel → AllByRecursion Good values
        → ((x : A) → Good x → free x rest ≡ true) → EndsSo ends goes values marks rest → Stands (spelled values marks) state rest
        → list_at ends one goes mark fuel state ≡ Some ((values, marks), rest)
    list-complete zero values marks state rest few good last closed h = absurd (omega arith)
    list-complete (suc fuel) [] [] state rest few good last (inl k) h =
        let at : State → Option (Listed A × State) = λ s. Some (([], []), s) in
        let same : state ≡ rest = h in
        list-ends ends one goes mark fuel state (ap ends same ∙ k.1) ∙ ap at same
    list-complete (suc fuel) [] [] state rest few good last (inr k) h = let bad : 0 + 1 ≡ 0 = k.0 in absurd (omega arith)
    list-complete (suc fuel) [] (m ∷ marks) state rest few good last (inl k) h = let bad : suc (length marks) ≡ 0 = k.0 in absurd (omega arith)
    list-complete (suc fuel) [] (m ∷ marks) state rest few good last (inr k) h = let bad : suc (length marks) + 1 ≡ 0 = k.0 in absurd (omega arith)
    list-complete (suc fuel) (x ∷ values) [] state rest few good last (inl k) h = let bad : 0 ≡ suc (length values) = k.0 in absurd (omega arith)
    list-complete (suc fuel) (x ∷ y ∷ values) [] state rest few good last (inr k) h = let bad : 0 + 1 ≡ suc (suc (length values)) = k.0 in absurd (omega arith)
    list-complete (suc fuel) (x ∷ []) [] state rest few good last (inr k) h =
        let parts = stands-split (pieces x) [] state rest h in
        let same : parts.0 ≡ rest = parts.2 in
        let stands : Stands (pieces x) state rest = subst (λ r. Stands (pieces x) state r) same parts.1 in
        list-last ends one goes mark fuel state x rest (no_end state x rest good.0 stands) (one_complete state x rest good.0 (last x good.0) stands) k.1
    list-complete (suc fuel) (x ∷ values) (m ∷ marks) state rest few good last closed h =
        let parts = stands-split (pieces x) (punct mark m ∷ spelled values marks) state rest h in
        let after = parts.2.0 in
        let comma : Begins (punct mark m) parts.0 after = parts.2.1 in
        let fewer : length marks < fuel = omega arith in
        let end : EndsSo ends goes values marks rest = elim closed [
          | inl k ↦ let same : suc (length marks) ≡ suc (length values) = k.0 in inl (omega arith, k.1)
          | inr k ↦ let same : suc (length marks) + 1 ≡ suc (length values) = k.0 in inr (omega arith, k.1)
        ] in
        let others = list-complete fuel values marks after rest fewer good.1 last end parts.2.2 in
        let read = one_complete state x parts.0 good.0 (free_before x good.0 m parts.0 after comma) parts.1 in
        let go = goes_before m parts.0 after comma (list-starts fuel after ((values, marks), rest) others) in
        list-more ends one goes mark fuel state x parts.0 (no_end state x parts.0 good.0 parts.1) read go
        ∙ rw (punct-complete mark parts.0 m after comma, others) refl
