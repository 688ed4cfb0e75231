-- Items one after the other: the steps of a loop that reads them, and what a run of them is.
use Rattle.std.proofs.Common.{◌≡◌, ℕ, zero, suc, ◌+◌, ◌-◌, ◌<◌, ◌≤◌, Bool, true, false, List, [], ◌∷◌, ◌++◌, length, Option, Some, None, refl, sym, ap, subst, ◌∙◌, append_assoc, arith, inl, inr}
use Rattle.std.proofs.lemmas.List.{append-nil}
use Rattle.std.specs.List.{fold}
use Rattle.tb_small.specs.declared.error.SmallError.{SmallError}
use Rattle.tb_small.specs.declared.error.SmallError.TheVariants as errors
use Rattle.tb_small.specs.Reading.{◌>>=◌, Fails, many_at, with_last}
use Rattle.tb_small.proofs.Options.{bind_some, kept, chosen, some_is}

module _ {S A : Type 0} (stops : List ℕ → Bool) (one : S → List ℕ → Option (A × List ℕ)) (update : S → A → S) where
  pub many-stops : (fuel : ℕ) (state : S) (text : List ℕ) → stops text ≡ true → many_at stops one update fuel state text ≡ Some (state, text)
  unfolding many_at
  many-stops zero state text stop = rw stop refl
  many-stops (suc fuel) state text stop = rw stop refl

  pub many-zero : (state : S) (text : List ℕ) → stops text ≡ false → many_at stops one update 0 state text ≡ None
  unfolding many_at
  many-zero state text stop = rw stop refl

  pub many-suc : (fuel : ℕ) (state : S) (text : List ℕ) → stops text ≡ false
      → many_at stops one update (suc fuel) state text ≡ (one state text >>= λ x. many_at stops one update fuel (update state x.0) x.1)
  unfolding many_at
  many-suc fuel state text stop = rw stop refl

  -- the loop has read one more
  pub goes_on : (count i : ℕ) (state : S) (text : List ℕ) (x : A) (after : List ℕ) (total : Option (S × List ℕ))
      → i < count → stops text ≡ false → one state text ≡ Some (x, after) → many_at stops one update (count - i) state text ≡ total
      → many_at stops one update (count - (i + 1)) (update state x) after ≡ total
  goes_on count i state text x after total below go read so_far =
      let fuel : count - i ≡ suc (count - (i + 1)) = omega arith in
      sym (ap (λ n. many_at stops one update n state text) fuel ∙ many-suc (count - (i + 1)) state text go
      ∙ ap (λ r. r >>= λ x. many_at stops one update (count - (i + 1)) (update state x.0) x.1) read) ∙ so_far

  -- the loop could not read one more
  pub fails : (e : SmallError) (count i : ℕ) (state : S) (text : List ℕ) (total : Option (S × List ℕ))
      → i < count → stops text ≡ false → Fails e (one state text) → many_at stops one update (count - i) state text ≡ total
      → Fails e total
  fails errors.Memory count i state text total below go read so_far = tt
  fails errors.NotBuilt count i state text total below go read so_far =
      let fuel : count - i ≡ suc (count - (i + 1)) = omega arith in
      sym so_far ∙ ap (λ n. many_at stops one update n state text) fuel ∙ many-suc (count - (i + 1)) state text go
      ∙ ap (λ r. r >>= λ x. many_at stops one update (count - (i + 1)) (update state x.0) x.1) read

  -- the loop has used up its fuel
  pub ends : (count i : ℕ) (state : S) (text : List ℕ) (total : Option (S × List ℕ))
      → count ≤ i → stops text ≡ false → many_at stops one update (count - i) state text ≡ total → total ≡ None
  ends count i state text total past go so_far =
      let fuel : count - i ≡ 0 = omega arith in
      sym so_far ∙ ap (λ n. many_at stops one update n state text) fuel ∙ many-zero state text go

  -- the loop has come to where the items stop
  pub done : (fuel : ℕ) (state : S) (text : List ℕ) (total : Option (S × List ℕ))
      → stops text ≡ true → many_at stops one update fuel state text ≡ total → total ≡ Some (state, text)
  done fuel state text total stop so_far = sym so_far ∙ many-stops fuel state text stop

pub ruleset loops = (goes_on, fails, ends, done)

-- these items follow each other, each as `Item` says of it, the state before, its text and the rest
abbrev pub Chain : {S A : Type 0} → (S → A → S) → (S → A → List ℕ → List ℕ → Type 0) → S → List A → List ℕ → List ℕ → Type 0
Chain update Item state [] text rest = text ≡ rest
Chain update Item state (x ∷ more) text rest = (after : List ℕ) × Item state x text after × Chain update Item (update state x) more after rest

module _ {S A : Type 0} (stops : List ℕ → Bool) (one : S → List ℕ → Option (A × List ℕ)) (update : S → A → S) (Item : S → A → List ℕ → List ℕ → Type 0) where
  -- a chain behind this state ends in that one, where the items stop, within the fuel
  pub record Run (fuel : ℕ) (state : S) (text : List ℕ) (end : S) (rest : List ℕ) : Type 0 where
    pub items : List A
    pub few : length items ≤ fuel
    pub leads : end ≡ fold update state items
    pub chain : Chain update Item state items text rest
    pub stop : stops rest ≡ true

  no_items : (fuel : ℕ) (state : S) (text : List ℕ) → stops text ≡ true → Run fuel state text state text
  no_items fuel state text stop = record { items = []; few = omega arith; leads = refl; chain = refl; stop = stop }

  -- what is read is a chain up to where it stops
  pub many-takes : ((state : S) (x : A) (text after : List ℕ) → one state text ≡ Some (x, after) → Item state x text after)
      → (fuel : ℕ) (state : S) (text : List ℕ) (end : S) (rest : List ℕ) → many_at stops one update fuel state text ≡ Some (end, rest)
      → Run fuel state text end rest
  unfolding many_at
  many-takes sound zero state text end rest e =
      let k = kept (stops text) (Some (state, text)) (end, rest) e in
      let at : S × List ℕ → Type 0 = λ y. Run 0 state text y.0 y.1 in
      subst at (some_is (state, text) (end, rest) k.1) (no_items 0 state text k.0)
  many-takes sound (suc fuel) state text end rest e =
      let at : S × List ℕ → Type 0 = λ y. Run (suc fuel) state text y.0 y.1 in
      elim (chosen (stops text) (Some (state, text)) (one state text >>= λ x. many_at stops one update fuel (update state x.0) x.1) (end, rest) e) [
        | inl k ↦ subst at (some_is (state, text) (end, rest) k.1) (no_items (suc fuel) state text k.0)
        | inr k ↦
            let a = bind_some (one state text) (λ x. many_at stops one update fuel (update state x.0) x.1) (end, rest) k.1 in
            let b = many-takes sound fuel (update state a.0.0) a.0.1 end rest a.2 in
            let few : length b.items ≤ fuel = b.few in
            record { items = a.0.0 ∷ b.items; few = omega arith; leads = b.leads; chain = (a.0.1, sound state a.0.0 text a.0.1 a.1, b.chain); stop = b.stop }
      ]

  -- a chain up to where it stops is read
  pub many-again : ((state : S) (x : A) (text after : List ℕ) → Item state x text after → one state text ≡ Some (x, after))
      → ((state : S) (x : A) (text after : List ℕ) → Item state x text after → stops text ≡ false)
      → (fuel : ℕ) (state : S) (items : List A) (text rest : List ℕ) → length items ≤ fuel → Chain update Item state items text rest → stops rest ≡ true
      → many_at stops one update fuel state text ≡ Some (fold update state items, rest)
  many-again whole goes fuel state [] text rest fits chain stop = rw chain (many-stops stops one update fuel state rest stop)
  many-again whole goes zero state (x ∷ items) text rest fits chain stop = absurd (omega arith)
  many-again whole goes (suc fuel) state (x ∷ items) text rest fits chain stop =
      many-suc stops one update fuel state text (goes state x text chain.0 chain.1)
      ∙ ap (λ r. r >>= λ x. many_at stops one update fuel (update state x.0) x.1) (whole state x text chain.0 chain.1)
      ∙ many-again whole goes fuel (update state x) items chain.0 rest (omega arith) chain.2 stop

  -- a chain has no more items than the text has bytes
  pub chain-length : ((state : S) (x : A) (text after : List ℕ) → Item state x text after → length after < length text)
      → (state : S) (items : List A) (text rest : List ℕ) → Chain update Item state items text rest → length items ≤ length text
  chain-length shorter state [] text rest chain = omega arith
  chain-length shorter state (x ∷ items) text rest chain =
      let first = shorter state x text chain.0 chain.1 in
      let others = chain-length shorter (update state x) items chain.0 rest chain.2 in
      omega arith

-- a state that is the list of what was read
pub fold-with_last : {A : Type 0} (items more : List A) → fold with_last items more ≡ items ++ more
fold-with_last items [] = sym (append-nil items)
fold-with_last items (x ∷ more) = fold-with_last (items ++ x ∷ []) more ∙ append_assoc items (x ∷ []) more
