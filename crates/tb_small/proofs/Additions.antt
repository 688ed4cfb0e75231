-- Atoms, sums and arguments: what is read is the tokens of its tree, and the tokens of a tree are read as it.
use Rattle.std.proofs.Common.{◌≡◌, ℕ, ◌<◌, ◌≤◌, inl, inr, Bool, true, false, cond, List, [], ◌∷◌, ◌++◌, length, Option, Some, None, refl, sym, ap, subst, ◌∙◌, arith}
use Rattle.std.specs.Prelude.{codes}
use Rattle.std.specs.List.{flat_map, AllByRecursion}
use Rattle.std.specs.Str.{bytes_eq}
use Rattle.tb_small.specs.Scope.{Binding}
use Rattle.tb_small.specs.declared.tree.Atom.{Atom}
use Rattle.tb_small.specs.declared.tree.Atom.TheVariants as atom
use Rattle.tb_small.specs.declared.tree.Sum.{Sum}
use Rattle.tb_small.specs.Words.{after_space, begins_with, begins_digit, is_name, Exactly, Number, Token, Reads}
use Rattle.tb_small.specs.Grammar.{token, spanned, name_of, atom_tokens, sum_tokens, IsAtom, IsSum, IsAtomWithin, IsSumWithin}
use Rattle.tb_small.specs.Reading.{◌>>=◌, eat, word_of, has_word, has_byte, with_last, int_variable_at, deref_at, int_at, atom_at, next_atom_at, ends_sum, atoms_at, sum_at, next_argument_at, ends_arguments, arguments_at, has_pointer}
use Rattle.tb_small.proofs.Options.{bind_some, chosen, some_is}
use Rattle.tb_small.proofs.Tokens.{token-again, token-takes, token-byte, token-shorter, reads-one, reads-then, reads-split, reads-shrinks}
use Rattle.tb_small.proofs.Bytes.{word-first}
use Rattle.tb_small.proofs.Many.{Chain, many-takes, many-again, chain-length, fold-with_last}
use Rattle.tb_small.proofs.Scopes.{AreNamed, bytes-differ}
use Rattle.tb_small.proofs.Variables.{mention, mention-byte, mention-word, digit-begins, number-name, number-stands, int-takes, int-again, unsafe-keyword}
use Rattle.tb_small.proofs.Spots.{int_variable-takes, int_variable-again, deref-takes, deref-again, deref-byte}

module _ (scope : List Binding) (inside : Bool) (size : ℕ) where
  -- atoms

  pub atom-takes : (text : List ℕ) (found : Atom) (rest : List ℕ) → atom_at scope inside size text ≡ Some (found, rest)
      → Reads size text (atom_tokens scope found) rest × IsAtom scope inside found × IsAtomWithin found
  unfolding atom_at
  atom-takes text found rest e =
      let at : Atom × List ℕ → Type 0 = λ y. Reads size text (atom_tokens scope y.0) y.1 × IsAtom scope inside y.0 × IsAtomWithin y.0 in
      let variables : Option (Atom × List ℕ) = int_variable_at scope size text >>= λ x. Some (atom.Variable x.0, x.1) in
      let ints : Option (Atom × List ℕ) = int_at size text >>= λ x. Some (atom.Int x.0, x.1) in
      elim (chosen (has_byte 42 text) (deref_at scope inside size text >>= λ x. Some (atom.Deref x.0, x.1)) (cond (is_name (word_of (after_space text))) variables ints) (found, rest) e) [
        | inl k ↦
            let deref = bind_some (deref_at scope inside size text) (λ x. Some (atom.Deref x.0, x.1)) (found, rest) k.1 in
            let h = deref-takes scope size inside text deref.0.0 deref.0.1 deref.1 in
            subst at (some_is (atom.Deref deref.0.0, deref.0.1) (found, rest) deref.2) (h.0, h.1, tt)
        | inr k ↦ elim (chosen (is_name (word_of (after_space text))) variables ints (found, rest) k.1) [
          | inl name ↦
              let variable = bind_some (int_variable_at scope size text) (λ x. Some (atom.Variable x.0, x.1)) (found, rest) name.1 in
              let h = int_variable-takes scope size text variable.0.0 variable.0.1 variable.1 in
              subst at (some_is (atom.Variable variable.0.0, variable.0.1) (found, rest) variable.2) ((variable.0.1, h.0, refl), (h.1, h.2), tt)
          | inr other ↦
              let int = bind_some (int_at size text) (λ x. Some (atom.Int x.0, x.1)) (found, rest) other.1 in
              let h = int-takes size text int.0.0 int.0.1 int.1 in
              subst at (some_is (atom.Int int.0.0, int.0.1) (found, rest) int.2) ((int.0.1, h.0, refl), tt, h.1)
        ]
      ]

  pub atom-again : AreNamed scope → (text : List ℕ) (found : Atom) (rest : List ℕ) → IsAtom scope inside found → IsAtomWithin found
      → Reads size text (atom_tokens scope found) rest → atom_at scope inside size text ≡ Some (found, rest)
  unfolding atom_at
  atom-again named text (atom.Deref deref) rest meant within h =
      let test : has_byte 42 text ≡ true = ap (begins_with 42) (deref-byte scope size text deref rest h) in
      rw (test, deref-again scope size named inside text deref rest meant h) refl
  atom-again named text (atom.Variable variable) rest meant within h =
      let here = reads-one size text (spanned variable.span (Exactly (name_of scope variable.number))) rest h in
      let m = mention scope size text variable rest named meant.0 here in
      let star : has_byte 42 text ≡ false = mention-byte scope text variable.number rest m 42 refl in
      let test : is_name (word_of (after_space text)) ≡ true = ap is_name m.word ∙ m.name in
      rw (star, test, int_variable-again scope size named text variable rest meant.0 meant.1 here) refl
  atom-again named text (atom.Int int) rest meant within h =
      let here = reads-one size text (spanned int.span (Number int.value)) rest h in
      let stands = number-stands size text int.span int.value rest here in
      let star : has_byte 42 text ≡ false = ap (begins_with 42) here.bytes ∙ word-first 42 here.word rest (digit-begins here.word stands.2) refl in
      let test : is_name (word_of (after_space text)) ≡ false = ap is_name stands.0 ∙ number-name here.word stands.2 in
      rw (star, test, int-again size text int rest within here) refl

  -- an atom begins like no borrow, no raw pointer and no `unsafe`
  pub record Plain (text : List ℕ) : Type 0 where
    pub no_borrow : has_byte 38 text ≡ false
    pub no_pointer : has_pointer scope text ≡ false
    pub no_unsafe : has_word (codes "unsafe") text ≡ false

  pub atom-plain : AreNamed scope → (text : List ℕ) (found : Atom) (rest : List ℕ) → IsAtom scope inside found → Reads size text (atom_tokens scope found) rest → Plain text
  atom-plain named text (atom.Deref deref) rest meant h =
      let star = deref-byte scope size text deref rest h in
      record { no_borrow = rw star refl; no_pointer = rw star refl; no_unsafe = rw star refl }
  atom-plain named text (atom.Variable variable) rest meant h =
      let here = reads-one size text (spanned variable.span (Exactly (name_of scope variable.number))) rest h in
      let m = mention scope size text variable rest named meant.0 here in
      record {
        no_borrow = mention-byte scope text variable.number rest m 38 refl;
        no_pointer = rw m.word (rw (m.name, m.last) (rw meant.1 refl));
        no_unsafe = mention-word scope text variable.number rest m (codes "unsafe") unsafe-keyword;
      }
  atom-plain named text (atom.Int int) rest meant h =
      let here = reads-one size text (spanned int.span (Number int.value)) rest h in
      let stands = number-stands size text int.span int.value rest here in
      let digit : begins_digit here.word ≡ true = stands.2 in
      record {
        no_borrow = ap (begins_with 38) here.bytes ∙ word-first 38 here.word rest (digit-begins here.word digit) refl;
        no_pointer = rw stands.0 (rw (number-name here.word digit) refl);
        no_unsafe = ap (λ w. bytes_eq w (codes "unsafe")) stands.0 ∙ bytes-differ here.word (codes "unsafe") (λ same. let other : begins_digit (codes "unsafe") ≡ true = subst (λ w. begins_digit w ≡ true) same digit in absurd cc);
      }

  -- `+` and an atom
  abbrev pub plus_tokens : Atom → List Token
  plus_tokens atom = token (codes "+") ∷ atom_tokens scope atom

  abbrev pub AtomItem : List Atom → Atom → List ℕ → List ℕ → Type 0
  AtomItem before atom text after = Reads size text (plus_tokens atom) after × IsAtom scope inside atom × IsAtomWithin atom

  next-takes : (before : List Atom) (found : Atom) (text after : List ℕ) → next_atom_at scope inside size text ≡ Some (found, after) → AtomItem before found text after
  unfolding next_atom_at
  next-takes before found text after e =
      let plus = bind_some (eat (codes "+") text) (λ rest. atom_at scope inside size rest) (found, after) e in
      let h = atom-takes plus.0 found after plus.2 in
      ((plus.0, token-takes size (codes "+") text plus.0 plus.1, h.0), h.1, h.2)

  next-again : AreNamed scope → (before : List Atom) (found : Atom) (text after : List ℕ) → AtomItem before found text after → next_atom_at scope inside size text ≡ Some (found, after)
  unfolding next_atom_at
  next-again named before found text after h =
      let plus = token-again size text (codes "+") None None h.0.0 h.0.1 in
      rw plus (atom-again named h.0.0 found after h.1 h.2 h.0.2)

  next-goes : (before : List Atom) (found : Atom) (text after : List ℕ) → AtomItem before found text after → ends_sum text ≡ false
  next-goes before found text after h = rw (token-byte size text 43 None None h.0.0 h.0.1) refl

  -- a chain of atoms is their tokens
  atoms-tokens : (before more : List Atom) (text rest : List ℕ) → Chain with_last AtomItem before more text rest
      → Reads size text (flat_map plus_tokens more) rest × AllByRecursion (IsAtom scope inside) more × AllByRecursion IsAtomWithin more
  atoms-tokens before [] text rest chain = (chain, tt, tt)
  atoms-tokens before (found ∷ more) text rest chain =
      let others = atoms-tokens (before ++ found ∷ []) more chain.0 rest chain.2 in (
        reads-then size (plus_tokens found) (flat_map plus_tokens more) text chain.0 rest chain.1.0 others.0,
        (chain.1.1, others.1),
        (chain.1.2, others.2),
      )

  tokens-atoms : (before more : List Atom) (text rest : List ℕ) → Reads size text (flat_map plus_tokens more) rest → AllByRecursion (IsAtom scope inside) more → AllByRecursion IsAtomWithin more
      → Chain with_last AtomItem before more text rest
  tokens-atoms before [] text rest h meant within = h
  tokens-atoms before (found ∷ more) text rest h meant within =
      let parts = reads-split size (plus_tokens found) (flat_map plus_tokens more) text rest h in
      (parts.0, (parts.1, meant.0, within.0), tokens-atoms (before ++ found ∷ []) more parts.0 rest parts.2 meant.1 within.1)

  pub sum-takes : (text : List ℕ) (found : Sum) (rest : List ℕ) → sum_at scope inside size text ≡ Some (found, rest)
      → Reads size text (sum_tokens scope found) rest × IsSum scope inside found × IsSumWithin found
  unfolding sum_at atoms_at
  sum-takes text found rest e =
      let first = bind_some (atom_at scope inside size text) _ (found, rest) e in
      let more = bind_some (atoms_at scope inside size first.0.1) _ (found, rest) first.2 in
      let head = atom-takes text first.0.0 first.0.1 first.1 in
      let run = many-takes ends_sum (λ _. next_atom_at scope inside size) with_last AtomItem next-takes 63 [] first.0.1 more.0.0 more.0.1 more.1 in
      let same : run.items ≡ more.0.0 = sym (run.leads ∙ fold-with_last [] run.items) in
      let tail = atoms-tokens [] run.items first.0.1 more.0.1 run.chain in
      let few : length run.items ≤ 63 = run.few in
      let at : Sum × List ℕ → Type 0 = λ y. Reads size text (sum_tokens scope y.0) y.1 × IsSum scope inside y.0 × IsSumWithin y.0 in
      let of : List Atom → Type 0 = λ l. at (record { first = first.0.0; rest = l }, more.0.1) in
      let tokens = reads-then size (atom_tokens scope first.0.0) (flat_map plus_tokens run.items) text first.0.1 more.0.1 head.0 tail.0 in
      subst at (some_is _ (found, rest) more.2) (subst of same (tokens, (head.1, tail.1), (omega arith, (head.2, tail.2))))

  -- a sum is read where no `+` follows it
  pub sum-again : AreNamed scope → (text : List ℕ) (found : Sum) (rest : List ℕ) → IsSum scope inside found → IsSumWithin found → ends_sum rest ≡ true
      → Reads size text (sum_tokens scope found) rest → sum_at scope inside size text ≡ Some (found, rest)
  unfolding sum_at atoms_at
  sum-again named text found rest meant within ends h =
      let parts = reads-split size (atom_tokens scope found.first) (flat_map plus_tokens found.rest) text rest h in
      let first = atom-again named text found.first parts.0 meant.0 within.1.0 parts.1 in
      let few : length found.rest ≤ 63 = let limit = within.0 in omega arith in
      let chain = tokens-atoms [] found.rest parts.0 rest parts.2 meant.1 within.1.1 in
      let at : List Atom → Option (List Atom × List ℕ) = λ l. Some (l, rest) in
      let more : atoms_at scope inside size parts.0 ≡ Some (found.rest, rest) =
      many-again ends_sum (λ _. next_atom_at scope inside size) with_last AtomItem (next-again named) next-goes 63 [] found.rest parts.0 rest few chain ends
      ∙ ap at (fold-with_last [] found.rest) in
      rw (first, more) refl

  -- and begins with its first atom
  pub sum-plain : AreNamed scope → (text : List ℕ) (found : Sum) (rest : List ℕ) → IsSum scope inside found → Reads size text (sum_tokens scope found) rest → Plain text
  sum-plain named text found rest meant h =
      let parts = reads-split size (atom_tokens scope found.first) (flat_map plus_tokens found.rest) text rest h in
      atom-plain named text found.first parts.0 meant.0 parts.1

  pub sum-shrinks : (text : List ℕ) (found : Sum) (rest : List ℕ) → Reads size text (sum_tokens scope found) rest → length rest ≤ length text
  sum-shrinks text found rest h = reads-shrinks size (sum_tokens scope found) text rest h

  -- `,` and a sum
  abbrev pub argument_tokens : Sum → List Token
  argument_tokens sum = token (codes ",") ∷ sum_tokens scope sum

  abbrev pub ArgumentItem : List Sum → Sum → List ℕ → List ℕ → Type 0
  ArgumentItem before sum text after = Reads size text (argument_tokens sum) after × IsSum scope inside sum × IsSumWithin sum

  -- and no `+` follows it
  abbrev pub EndedItem : List Sum → Sum → List ℕ → List ℕ → Type 0
  EndedItem before sum text after = ArgumentItem before sum text after × (ends_sum after ≡ true)

  argument-takes : (before : List Sum) (found : Sum) (text after : List ℕ) → next_argument_at scope inside size text ≡ Some (found, after) → ArgumentItem before found text after
  unfolding next_argument_at
  argument-takes before found text after e =
      let comma = bind_some (eat (codes ",") text) (λ rest. sum_at scope inside size rest) (found, after) e in
      let h = sum-takes comma.0 found after comma.2 in
      ((comma.0, token-takes size (codes ",") text comma.0 comma.1, h.0), h.1, h.2)

  argument-again : AreNamed scope → (before : List Sum) (found : Sum) (text after : List ℕ) → EndedItem before found text after → next_argument_at scope inside size text ≡ Some (found, after)
  unfolding next_argument_at
  argument-again named before found text after h =
      let comma = token-again size text (codes ",") None None h.0.0.0 h.0.0.1 in
      rw comma (sum-again named h.0.0.0 found after h.0.1 h.0.2 h.1 h.0.0.2)

  argument-goes : (before : List Sum) (found : Sum) (text after : List ℕ) → EndedItem before found text after → ends_arguments text ≡ false
  argument-goes before found text after h = rw (token-byte size text 44 None None h.0.0.0 h.0.0.1) refl

  argument-shorter : (before : List Sum) (found : Sum) (text after : List ℕ) → EndedItem before found text after → length after < length text
  argument-shorter before found text after h =
      let comma = h.0.0.1 in
      let first = token-shorter size text (token (codes ",")) h.0.0.0 comma (subst (λ w. 0 < length w) (sym comma.spelled) (omega arith)) in
      let others = sum-shrinks h.0.0.0 found after h.0.0.2 in
      omega arith

  -- a chain of arguments is their tokens
  arguments-tokens : (before more : List Sum) (text rest : List ℕ) → Chain with_last ArgumentItem before more text rest
      → Reads size text (flat_map argument_tokens more) rest × AllByRecursion (IsSum scope inside) more × AllByRecursion IsSumWithin more
  arguments-tokens before [] text rest chain = (chain, tt, tt)
  arguments-tokens before (found ∷ more) text rest chain =
      let others = arguments-tokens (before ++ found ∷ []) more chain.0 rest chain.2 in (
        reads-then size (argument_tokens found) (flat_map argument_tokens more) text chain.0 rest chain.1.0 others.0,
        (chain.1.1, others.1),
        (chain.1.2, others.2),
      )

  -- behind an argument comes a comma, or what follows the last
  arguments-end : (more : List Sum) (text rest : List ℕ) → Reads size text (flat_map argument_tokens more) rest → ends_sum rest ≡ true → ends_sum text ≡ true
  arguments-end [] text rest h ends = rw h ends
  arguments-end (found ∷ more) text rest h ends =
      rw (token-byte size text 44 None None h.0 h.1) refl

  tokens-arguments : (before more : List Sum) (text rest : List ℕ) → Reads size text (flat_map argument_tokens more) rest → AllByRecursion (IsSum scope inside) more → AllByRecursion IsSumWithin more
      → ends_sum rest ≡ true → Chain with_last EndedItem before more text rest
  tokens-arguments before [] text rest h meant within ends = h
  tokens-arguments before (found ∷ more) text rest h meant within ends =
      let parts = reads-split size (argument_tokens found) (flat_map argument_tokens more) text rest h in
      (parts.0, ((parts.1, meant.0, within.0), arguments-end more parts.0 rest parts.2 ends), tokens-arguments (before ++ found ∷ []) more parts.0 rest parts.2 meant.1 within.1 ends)

  pub arguments-take : (text : List ℕ) (found : List Sum) (rest : List ℕ) → arguments_at scope inside size text ≡ Some (found, rest)
      → Reads size text (flat_map argument_tokens found) rest × AllByRecursion (IsSum scope inside) found × AllByRecursion IsSumWithin found
  unfolding arguments_at
  arguments-take text found rest e =
      let run = many-takes ends_arguments (λ _. next_argument_at scope inside size) with_last ArgumentItem argument-takes (length text) [] text found rest e in
      let same : run.items ≡ found = sym (run.leads ∙ fold-with_last [] run.items) in
      let at : List Sum → Type 0 = λ l. Reads size text (flat_map argument_tokens l) rest × AllByRecursion (IsSum scope inside) l × AllByRecursion IsSumWithin l in
      subst at same (arguments-tokens [] run.items text rest run.chain)

  pub arguments-again : AreNamed scope → (text : List ℕ) (found : List Sum) (rest : List ℕ) → AllByRecursion (IsSum scope inside) found → AllByRecursion IsSumWithin found
      → ends_sum rest ≡ true → ends_arguments rest ≡ true → Reads size text (flat_map argument_tokens found) rest → arguments_at scope inside size text ≡ Some (found, rest)
  unfolding arguments_at
  arguments-again named text found rest meant within ends stop h =
      let chain = tokens-arguments [] found text rest h meant within ends in
      let at : List Sum → Option (List Sum × List ℕ) = λ l. Some (l, rest) in
      many-again ends_arguments (λ _. next_argument_at scope inside size) with_last EndedItem (argument-again named) argument-goes (length text) [] found text rest
      (chain-length ends_arguments (λ _. next_argument_at scope inside size) with_last EndedItem argument-shorter [] found text rest chain) chain stop
      ∙ ap at (fold-with_last [] found)
