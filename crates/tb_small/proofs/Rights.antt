-- Values and right sides: what is read is the tokens of its tree, and the tokens of a tree are read as it.
use Rattle.std.proofs.Common.{◌≡◌, ℕ, ◌-◌, inl, inr, Bool, true, false, cond, ◌&&◌, ◌||◌, not, List, [], ◌∷◌, ◌++◌, length, Option, Some, None, refl, sym, ap, subst, ◌∙◌}
use Rattle.std.specs.Prelude.{codes}
use Rattle.std.specs.List.{AllByRecursion}
use Rattle.std.specs.Str.{bytes_eq}
use Rattle.tb_small.specs.Scope.{Binding}
use Rattle.tb_small.specs.declared.tree.RefKind.{RefKind}
use Rattle.tb_small.specs.declared.tree.RefKind.TheVariants as kind
use Rattle.tb_small.specs.declared.tree.Spot.{Spot}
use Rattle.tb_small.specs.declared.tree.Spot.TheVariants as spot
use Rattle.tb_small.specs.declared.tree.Borrow.{Borrow}
use Rattle.tb_small.specs.declared.tree.Value.{Value}
use Rattle.tb_small.specs.declared.tree.Value.TheVariants as value
use Rattle.tb_small.specs.declared.tree.UnsafeRight.{UnsafeRight}
use Rattle.tb_small.specs.declared.tree.Right.{Right}
use Rattle.tb_small.specs.declared.tree.Right.TheVariants as right
use Rattle.tb_small.specs.Words.{after_space, begins_with, is_name, Exactly, Token, Begins, Reads}
use Rattle.tb_small.specs.Grammar.{opening, closing, spanned, name_of, type_of, is_raw, needs_mutable, is_mutable_spot, spot_tokens, IsSpot, kind_tokens, borrow_tokens, IsBorrow, value_tokens, IsValue, right_tokens, IsRight, value_sums, right_sums, IsSumWithin}
use Rattle.tb_small.specs.Reading.{◌>>=◌, eat, word_of, has_word, has_byte, last_named, variable_at, spot_at, ends_sum, sum_at, has_raw, raw_at, kind_at, borrow_at, is_raw_at, has_pointer, value_at, unsafe_right_at, right_at}
use Rattle.tb_small.proofs.Options.{bind_some, kept, chosen, some_is, both}
use Rattle.tb_small.proofs.Tokens.{exactly, token-again, token-takes, opening-takes, closing-takes, token-byte, reads-one, reads-then, reads-split}
use Rattle.tb_small.proofs.Scopes.{AreNamed}
use Rattle.tb_small.proofs.Variables.{word-stands, variable-takes, variable-number, variable-again, mention, mention-byte, mention-word, mut-keyword, unsafe-keyword}
use Rattle.tb_small.proofs.Spots.{spot-takes, spot-again, spot-ends, deref-byte}
use Rattle.tb_small.proofs.Additions.{sum-takes, sum-again, sum-plain}

-- what follows a value: no `+` and no word
pub record Follows (rest : List ℕ) : Type 0 where
  pub no_plus : ends_sum rest ≡ true
  pub no_word : word_of (after_space rest) ≡ []

-- as a semicolon and a brace do
pub semicolon-follows : (size : ℕ) (text : List ℕ) (lo hi : Option ℕ) (rest : List ℕ) → Begins size text (record { spelling = Exactly (codes ";"); lo = lo; hi = hi }) rest → Follows text
semicolon-follows size text lo hi rest h = let byte = token-byte size text 59 lo hi rest h in record { no_plus = rw byte refl; no_word = rw byte refl }

pub brace-follows : (size : ℕ) (text : List ℕ) (lo hi : Option ℕ) (rest : List ℕ) → Begins size text (record { spelling = Exactly (codes "}"); lo = lo; hi = hi }) rest → Follows text
brace-follows size text lo hi rest h = let byte = token-byte size text 125 lo hi rest h in record { no_plus = rw byte refl; no_word = rw byte refl }

and-false : (b : Bool) → (b && false) ≡ false
and-false true = refl
and-false false = refl

-- Kinds of borrows.

raw-takes : (size : ℕ) (lo : ℕ) (text front : List ℕ) → Begins size text (opening lo (codes "&")) front → (found : RefKind) (rest : List ℕ) → raw_at front ≡ Some (found, rest) → Reads size text (kind_tokens lo found) rest
unfolding raw_at
raw-takes size lo text front first found rest e =
    let at : RefKind × List ℕ → Type 0 = λ y. Reads size text (kind_tokens lo y.0) y.1 in
    let raw = bind_some (eat (codes "raw") front) _ (found, rest) e in
    let word = token-takes size (codes "raw") front raw.0 raw.1 in
    elim (chosen (has_word (codes "mut") raw.0) (eat (codes "mut") raw.0 >>= λ rest. Some (kind.RawMut, rest)) (eat (codes "const") raw.0 >>= λ rest. Some (kind.RawConst, rest)) (found, rest) raw.2) [
      | inl k ↦
          let last = bind_some (eat (codes "mut") raw.0) (λ rest. Some (kind.RawMut, rest)) (found, rest) k.1 in
          subst at (some_is (kind.RawMut, last.0) (found, rest) last.2) (front, first, (raw.0, word, (last.0, token-takes size (codes "mut") raw.0 last.0 last.1, refl)))
      | inr k ↦
          let last = bind_some (eat (codes "const") raw.0) (λ rest. Some (kind.RawConst, rest)) (found, rest) k.1 in
          subst at (some_is (kind.RawConst, last.0) (found, rest) last.2) (front, first, (raw.0, word, (last.0, token-takes size (codes "const") raw.0 last.0 last.1, refl)))
    ]

kind-takes : (size : ℕ) (text : List ℕ) (found : RefKind) (rest : List ℕ) → kind_at text ≡ Some (found, rest) → Reads size text (kind_tokens (size - length (after_space text)) found) rest
unfolding kind_at
kind-takes size text found rest e =
    let lo = size - length (after_space text) in
    let at : RefKind × List ℕ → Type 0 = λ y. Reads size text (kind_tokens lo y.0) y.1 in
    let front = bind_some (eat (codes "&") text) _ (found, rest) e in
    let first = opening-takes size (codes "&") text front.0 front.1 in
    let others : Option (RefKind × List ℕ) = cond (has_raw front.0) (raw_at front.0) (Some (kind.Shared, front.0)) in
    elim (chosen (has_word (codes "mut") front.0) (eat (codes "mut") front.0 >>= λ rest. Some (kind.Mut, rest)) others (found, rest) front.2) [
      | inl k ↦
          let last = bind_some (eat (codes "mut") front.0) (λ rest. Some (kind.Mut, rest)) (found, rest) k.1 in
          subst at (some_is (kind.Mut, last.0) (found, rest) last.2) (front.0, first, (last.0, token-takes size (codes "mut") front.0 last.0 last.1, refl))
      | inr k ↦ elim (chosen (has_raw front.0) (raw_at front.0) (Some (kind.Shared, front.0)) (found, rest) k.1) [
        | inl raw ↦ raw-takes size lo text front.0 first found rest raw.1
        | inr other ↦ subst at (some_is (kind.Shared, front.0) (found, rest) other.1) (front.0, first, refl)
      ]
    ]

kind-again : (size lo : ℕ) (text : List ℕ) (found : RefKind) (rest : List ℕ) → Reads size text (kind_tokens lo found) rest → has_word (codes "mut") rest ≡ false → has_raw rest ≡ false
    → kind_at text ≡ Some (found, rest)
unfolding kind_at raw_at
kind-again size lo text kind.Shared rest h no_mut no_raw =
    let front = token-again size text (codes "&") (Some lo) None rest (reads-one size text (opening lo (codes "&")) rest h) in
    rw (front, no_mut, no_raw) refl
kind-again size lo text kind.Mut rest h no_mut no_raw =
    let front = token-again size text (codes "&") (Some lo) None h.0 h.1 in
    let here = exactly size h.0 (codes "mut") None None h.2.0 h.2.1 in
    let stands = word-stands h.0 (codes "mut") h.2.0 here.0 here.1 refl refl in
    let test : has_word (codes "mut") h.0 ≡ true = ap (λ w. bytes_eq w (codes "mut")) stands.0 in
    let last : h.2.0 ≡ rest = h.2.2 in
    rw (front, test, token-again size h.0 (codes "mut") None None h.2.0 h.2.1) (rw last refl)
kind-again size lo text kind.RawConst rest h no_mut no_raw =
    let front = token-again size text (codes "&") (Some lo) None h.0 h.1 in
    let here = exactly size h.0 (codes "raw") None None h.2.0 h.2.1 in
    let stands = word-stands h.0 (codes "raw") h.2.0 here.0 here.1 refl refl in
    let t = h.2.2 in
    let next = exactly size h.2.0 (codes "const") None None t.0 t.1 in
    let stands_next = word-stands h.2.0 (codes "const") t.0 next.0 next.1 refl refl in
    let no_word : has_word (codes "mut") h.0 ≡ false = ap (λ w. bytes_eq w (codes "mut")) stands.0 in
    let raw : has_raw h.0 ≡ true = rw (stands.0, stands.1) (rw stands_next.0 refl) in
    let test : has_word (codes "mut") h.2.0 ≡ false = ap (λ w. bytes_eq w (codes "mut")) stands_next.0 in
    let last : t.0 ≡ rest = t.2 in
    rw (front, no_word, raw, token-again size h.0 (codes "raw") None None h.2.0 h.2.1) (rw (test, token-again size h.2.0 (codes "const") None None t.0 t.1) (rw last refl))
kind-again size lo text kind.RawMut rest h no_mut no_raw =
    let front = token-again size text (codes "&") (Some lo) None h.0 h.1 in
    let here = exactly size h.0 (codes "raw") None None h.2.0 h.2.1 in
    let stands = word-stands h.0 (codes "raw") h.2.0 here.0 here.1 refl refl in
    let t = h.2.2 in
    let next = exactly size h.2.0 (codes "mut") None None t.0 t.1 in
    let stands_next = word-stands h.2.0 (codes "mut") t.0 next.0 next.1 refl refl in
    let no_word : has_word (codes "mut") h.0 ≡ false = ap (λ w. bytes_eq w (codes "mut")) stands.0 in
    let raw : has_raw h.0 ≡ true = rw (stands.0, stands.1) (rw stands_next.0 refl) in
    let test : has_word (codes "mut") h.2.0 ≡ true = ap (λ w. bytes_eq w (codes "mut")) stands_next.0 in
    let last : t.0 ≡ rest = t.2 in
    rw (front, no_word, raw, token-again size h.0 (codes "raw") None None h.2.0 h.2.1) (rw (test, token-again size h.2.0 (codes "mut") None None t.0 t.1) (rw last refl))

-- each of them begins with `&`
kind-byte : (size lo : ℕ) (text : List ℕ) (found : RefKind) (rest : List ℕ) (h : Reads size text (kind_tokens lo found) rest)
    → ((after : List ℕ) × (after_space text ≡ 38 ∷ after)) × (lo ≡ size - length (after_space text))
kind-byte size lo text kind.Shared rest h = ((h.0, token-byte size text 38 (Some lo) None h.0 h.1), h.1.lo)
kind-byte size lo text kind.Mut rest h = ((h.0, token-byte size text 38 (Some lo) None h.0 h.1), h.1.lo)
kind-byte size lo text kind.RawConst rest h = ((h.0, token-byte size text 38 (Some lo) None h.0 h.1), h.1.lo)
kind-byte size lo text kind.RawMut rest h = ((h.0, token-byte size text 38 (Some lo) None h.0 h.1), h.1.lo)

module _ (scope : List Binding) (size : ℕ) where
  -- Borrows.

  borrow-takes : (inside : Bool) (text : List ℕ) (found : Borrow) (rest : List ℕ) → borrow_at scope inside size text ≡ Some (found, rest)
      → Reads size text (borrow_tokens scope found) rest × IsBorrow scope inside found
  unfolding borrow_at
  borrow-takes inside text found rest e =
      let front = bind_some (kind_at text) _ (found, rest) e in
      let operand = bind_some (spot_at scope inside size front.0.1) _ (found, rest) front.2 in
      let k = kept (not (needs_mutable front.0.0) || is_mutable_spot scope operand.0.0) _ (found, rest) operand.2 in
      let first = kind-takes size text front.0.0 front.0.1 front.1 in
      let h = spot-takes scope size inside front.0.1 operand.0.0 operand.0.1 operand.1 in
      let ends = spot-ends scope size inside front.0.1 operand.0.0 operand.0.1 h.1 h.0 in
      let lo = size - length (after_space text) in
      let at : Borrow × List ℕ → Type 0 = λ y. Reads size text (borrow_tokens scope y.0) y.1 × IsBorrow scope inside y.0 in
      subst at (some_is _ (found, rest) k.1)
      (reads-then size (kind_tokens lo front.0.0) (spot_tokens scope operand.0.0) text front.0.1 operand.0.1 first h.0, (sym ends, h.1, k.0))

  -- an operand is no `mut`, and no `raw` before `const` or `mut`
  operand-front : AreNamed scope → (inside : Bool) (text : List ℕ) (found : Spot) (rest : List ℕ) → IsSpot scope inside found → Reads size text (spot_tokens scope found) rest → Follows rest
      → (has_word (codes "mut") text ≡ false) × (has_raw text ≡ false)
  operand-front named inside text (spot.Deref deref) rest meant h follows =
      let star = deref-byte scope size text deref rest h in
      (rw star refl, rw star refl)
  operand-front named inside text (spot.Variable variable) rest meant h follows =
      let here = reads-one size text (spanned variable.span (Exactly (name_of scope variable.number))) rest h in
      let m = mention scope size text variable rest named meant.0 here in (
        mention-word scope text variable.number rest m (codes "mut") mut-keyword,
        rw m.after (rw follows.no_word (and-false (has_word (codes "raw") text))),
      )

  borrow-again : AreNamed scope → (inside : Bool) (text : List ℕ) (found : Borrow) (rest : List ℕ) → IsBorrow scope inside found → Follows rest
      → Reads size text (borrow_tokens scope found) rest → borrow_at scope inside size text ≡ Some (found, rest)
  unfolding borrow_at
  borrow-again named inside text found rest meant follows h =
      let parts = reads-split size (kind_tokens found.span.lo found.kind) (spot_tokens scope found.operand) text rest h in
      let front = operand-front named inside parts.0 found.operand rest meant.1 parts.2 follows in
      let first = kind-again size found.span.lo text found.kind parts.0 parts.1 front.0 front.1 in
      let operand = spot-again scope size named inside parts.0 found.operand rest meant.1 parts.2 in
      let lo : size - length (after_space text) ≡ found.span.lo = sym (kind-byte size found.span.lo text found.kind parts.0 parts.1).1 in
      let hi : size - length rest ≡ found.span.hi = sym (meant.0 ∙ spot-ends scope size inside parts.0 found.operand rest meant.1 parts.2) in
      rw (first, operand, meant.2) (rw (lo, hi) refl)

  -- Values.

  pub value-takes : (inside : Bool) (text : List ℕ) (found : Value) (rest : List ℕ) → value_at scope inside size text ≡ Some (found, rest)
      → Reads size text (value_tokens scope found) rest × IsValue scope inside found × AllByRecursion IsSumWithin (value_sums found)
  unfolding value_at
  value-takes inside text found rest e =
      let at : Value × List ℕ → Type 0 = λ y. Reads size text (value_tokens scope y.0) y.1 × IsValue scope inside y.0 × AllByRecursion IsSumWithin (value_sums y.0) in
      let pointers : Option (Value × List ℕ) = variable_at scope size text >>= λ x. Some (value.Pointer x.0, x.1) in
      let sums : Option (Value × List ℕ) = sum_at scope inside size text >>= λ x. Some (value.Sum x.0, x.1) in
      elim (chosen (has_byte 38 text) (borrow_at scope inside size text >>= λ x. Some (value.Borrow x.0, x.1)) (cond (has_pointer scope text) pointers sums) (found, rest) e) [
        | inl k ↦
            let borrow = bind_some (borrow_at scope inside size text) (λ x. Some (value.Borrow x.0, x.1)) (found, rest) k.1 in
            let h = borrow-takes inside text borrow.0.0 borrow.0.1 borrow.1 in
            subst at (some_is (value.Borrow borrow.0.0, borrow.0.1) (found, rest) borrow.2) (h.0, h.1, tt)
        | inr k ↦ elim (chosen (has_pointer scope text) pointers sums (found, rest) k.1) [
          | inl pointer ↦
              let word = word_of (after_space text) in
              let variable = bind_some (variable_at scope size text) (λ x. Some (value.Pointer x.0, x.1)) (found, rest) pointer.1 in
              let h = variable-takes scope size text variable.0.0 variable.0.1 variable.1 in
              let raw = (both (is_name word) (is_raw_at scope (last_named scope word)) pointer.0).1 in
              let is : is_raw (type_of scope variable.0.0.number) ≡ true = subst (λ n. is_raw_at scope n ≡ true) (variable-number scope size text variable.0.0 variable.0.1 variable.1) raw in
              subst at (some_is (value.Pointer variable.0.0, variable.0.1) (found, rest) variable.2) ((variable.0.1, h.0, refl), (h.1, is), tt)
          | inr other ↦
              let sum = bind_some (sum_at scope inside size text) (λ x. Some (value.Sum x.0, x.1)) (found, rest) other.1 in
              let h = sum-takes scope inside size text sum.0.0 sum.0.1 sum.1 in
              subst at (some_is (value.Sum sum.0.0, sum.0.1) (found, rest) sum.2) (h.0, h.1, (h.2, tt))
        ]
      ]

  pub value-again : AreNamed scope → (inside : Bool) (text : List ℕ) (found : Value) (rest : List ℕ) → IsValue scope inside found → AllByRecursion IsSumWithin (value_sums found) → Follows rest
      → Reads size text (value_tokens scope found) rest → value_at scope inside size text ≡ Some (found, rest)
  unfolding value_at
  value-again named inside text (value.Sum sum) rest meant within follows h =
      let plain = sum-plain scope inside size named text sum rest meant h in
      rw (plain.no_borrow, plain.no_pointer, sum-again scope inside size named text sum rest meant within.0 follows.no_plus h) refl
  value-again named inside text (value.Borrow borrow) rest meant within follows h =
      let parts = reads-split size (kind_tokens borrow.span.lo borrow.kind) (spot_tokens scope borrow.operand) text rest h in
      let first = kind-byte size borrow.span.lo text borrow.kind parts.0 parts.1 in
      let test : has_byte 38 text ≡ true = ap (begins_with 38) first.0.1 in
      rw (test, borrow-again named inside text borrow rest meant follows h) refl
  value-again named inside text (value.Pointer variable) rest meant within follows h =
      let here = reads-one size text (spanned variable.span (Exactly (name_of scope variable.number))) rest h in
      let m = mention scope size text variable rest named meant.0 here in
      let no_borrow : has_byte 38 text ≡ false = mention-byte scope text variable.number rest m 38 refl in
      let test : has_pointer scope text ≡ true = rw m.word (rw (m.name, m.last) meant.1) in
      rw (no_borrow, test, variable-again scope size text variable rest named meant.0 here) refl

  -- no value begins with `unsafe`
  value-front : AreNamed scope → (inside : Bool) (text : List ℕ) (found : Value) (rest : List ℕ) → IsValue scope inside found → Reads size text (value_tokens scope found) rest → has_word (codes "unsafe") text ≡ false
  value-front named inside text (value.Sum sum) rest meant h = (sum-plain scope inside size named text sum rest meant h).no_unsafe
  value-front named inside text (value.Borrow borrow) rest meant h =
      let parts = reads-split size (kind_tokens borrow.span.lo borrow.kind) (spot_tokens scope borrow.operand) text rest h in
      rw (kind-byte size borrow.span.lo text borrow.kind parts.0 parts.1).0.1 refl
  value-front named inside text (value.Pointer variable) rest meant h =
      let here = reads-one size text (spanned variable.span (Exactly (name_of scope variable.number))) rest h in
      mention-word scope text variable.number rest (mention scope size text variable rest named meant.0 here) (codes "unsafe") unsafe-keyword

  -- Right sides.

  unsafe-takes : (text : List ℕ) (found : UnsafeRight) (rest : List ℕ) → unsafe_right_at scope size text ≡ Some (found, rest)
      → Reads size text (right_tokens scope (right.Unsafe found)) rest × IsValue scope true found.value × AllByRecursion IsSumWithin (value_sums found.value)
  unfolding unsafe_right_at
  unsafe-takes text found rest e =
      let keyword = bind_some (eat (codes "unsafe") text) _ (found, rest) e in
      let brace = bind_some (eat (codes "{") keyword.0) _ (found, rest) keyword.2 in
      let inner = bind_some (value_at scope true size brace.0) _ (found, rest) brace.2 in
      let end = bind_some (eat (codes "}") inner.0.1) _ (found, rest) inner.2 in
      let h = value-takes true brace.0 inner.0.0 inner.0.1 inner.1 in
      let last : Token = closing (codes "}") (size - length end.0) in
      let tail : Reads size brace.0 (value_tokens scope inner.0.0 ++ last ∷ []) end.0 =
      reads-then size (value_tokens scope inner.0.0) (last ∷ []) brace.0 inner.0.1 end.0 h.0 (end.0, closing-takes size (codes "}") inner.0.1 end.0 end.1, refl) in
      let at : UnsafeRight × List ℕ → Type 0 = λ y. Reads size text (right_tokens scope (right.Unsafe y.0)) y.1 × IsValue scope true y.0.value × AllByRecursion IsSumWithin (value_sums y.0.value) in
      subst at (some_is _ (found, rest) end.2)
      ((keyword.0, opening-takes size (codes "unsafe") text keyword.0 keyword.1, (brace.0, token-takes size (codes "{") keyword.0 brace.0 brace.1, tail)), h.1, h.2)

  pub right-takes : (inside : Bool) (text : List ℕ) (found : Right) (rest : List ℕ) → right_at scope inside size text ≡ Some (found, rest)
      → Reads size text (right_tokens scope found) rest × IsRight scope inside found × AllByRecursion IsSumWithin (right_sums found)
  unfolding right_at
  right-takes inside text found rest e =
      let at : Right × List ℕ → Type 0 = λ y. Reads size text (right_tokens scope y.0) y.1 × IsRight scope inside y.0 × AllByRecursion IsSumWithin (right_sums y.0) in
      elim (chosen (has_word (codes "unsafe") text) (unsafe_right_at scope size text >>= λ x. Some (right.Unsafe x.0, x.1)) (value_at scope inside size text >>= λ x. Some (right.Plain x.0, x.1)) (found, rest) e) [
        | inl k ↦
            let block = bind_some (unsafe_right_at scope size text) (λ x. Some (right.Unsafe x.0, x.1)) (found, rest) k.1 in
            subst at (some_is (right.Unsafe block.0.0, block.0.1) (found, rest) block.2) (unsafe-takes text block.0.0 block.0.1 block.1)
        | inr k ↦
            let plain = bind_some (value_at scope inside size text) (λ x. Some (right.Plain x.0, x.1)) (found, rest) k.1 in
            subst at (some_is (right.Plain plain.0.0, plain.0.1) (found, rest) plain.2) (value-takes inside text plain.0.0 plain.0.1 plain.1)
      ]

  pub right-again : AreNamed scope → (inside : Bool) (text : List ℕ) (found : Right) (rest : List ℕ) → IsRight scope inside found → AllByRecursion IsSumWithin (right_sums found) → Follows rest
      → Reads size text (right_tokens scope found) rest → right_at scope inside size text ≡ Some (found, rest)
  unfolding right_at unsafe_right_at
  right-again named inside text (right.Plain plain) rest meant within follows h =
      rw (value-front named inside text plain rest meant h, value-again named inside text plain rest meant within follows h) refl
  right-again named inside text (right.Unsafe block) rest meant within follows h =
      let last : Token = closing (codes "}") block.span.hi in
      let here = exactly size text (codes "unsafe") (Some block.span.lo) None h.0 h.1 in
      let stands = word-stands text (codes "unsafe") h.0 here.0 here.1 refl refl in
      let test : has_word (codes "unsafe") text ≡ true = ap (λ w. bytes_eq w (codes "unsafe")) stands.0 in
      let keyword = token-again size text (codes "unsafe") (Some block.span.lo) None h.0 h.1 in
      let t = h.2 in
      let brace = token-again size h.0 (codes "{") None None t.0 t.1 in
      let parts = reads-split size (value_tokens scope block.value) (last ∷ []) t.0 rest t.2 in
      let end = parts.2 in
      let inner = value-again named true t.0 block.value parts.0 meant within (brace-follows size parts.0 None (Some block.span.hi) end.0 end.1) parts.1 in
      let close = token-again size parts.0 (codes "}") None (Some block.span.hi) end.0 end.1 in
      let lo : size - length (after_space text) ≡ block.span.lo = sym h.1.lo in
      let hi : size - length end.0 ≡ block.span.hi = sym end.1.hi in
      rw (test, keyword, brace, inner, close) (rw (lo, hi, end.2) refl)
