-- What the loops of the lowering keep: what was lowered, with what is still to be lowered, is the whole.
use Rattle.std.proofs.Common.{◌≡◌, ◌<◌, ◌≤◌, ◌+◌, ◌-◌, ◌==◌, ℕ, suc, Bool, List, [], ◌∷◌, ◌++◌, length, take, drop, get_or, vec_len, refl, sym, ap, ◌∙◌, subst, arith, append_assoc, length-append}
use Rattle.std.specs.List.{AllByRecursion}
use Rattle.std.proofs.lemmas.List.{append-nil, map-append, drop_more, take_all}
use Rattle.std.proofs.lemmas.Bool.Decides.{nat_tests}
use Rattle.tb_small.specs.Grammar.{bindings}
use Rattle.tb_small.specs.declared.tree.Atom.{Atom}
use Rattle.tb_small.specs.declared.tree.Sum.{Sum}
use Rattle.tb_small.specs.declared.tree.Inner.{Inner}
use Rattle.tb_small.specs.declared.tree.Statement.{Statement}
use Rattle.tb_small.specs.declared.tree.Statement.TheVariants as statement
use Rattle.tb_mir.specs.declared.mir.Local.{Local}
use Rattle.tb_mir.specs.declared.operand.Operand.{Operand}
use Rattle.tb_mir.specs.declared.operand.Operand.TheVariants.{Temp}
use Rattle.tb_lower.specs.declared.lowering.Declared.{Declared}
use Rattle.tb_lower.specs.declared.lowering.Lowering.{Lowering}
use Rattle.tb_lower.specs.Pieces.{types, names, addition_shape, addition_lines}
use Rattle.tb_lower.specs.Lowering.{types_of, atom_shape, more_shape, more_lines, more_operand, sum_shape, sum_lines, sum_operand, sums_shape, sums_lines, sums_operands, inner_shape, inner_lines, inners_shape, inners_lines, statement_shape, statement_lines, statements_shape, statements_lines, declared_types, declared, all_declared, is_none}
use Rattle.tb_lower.specs.Ready.{IsAtomReady, IsSumReady, IsInnerReady, AreReady}
use Rattle.tb_lower.specs.Ways.{Naming, own, count, brings}

-- the same variables
same_items : (a b : Lowering) → a.variables ≡ b.variables → a.variables.items ≡ b.variables.items
same_items a b e = ap (λ v. v.items) e

same_types : (a b : Lowering) → a.variables ≡ b.variables → types a ≡ types b
same_types a b e = ap (λ v. types_of v.items) e

-- a list that is cut at a place
cut : {A : Type 0} (all : List A) (i : ℕ) (a d : A) → i < length all → a ≡ get_or all i d → drop i all ≡ a ∷ drop (i + 1) all
cut all i a d h is = drop_more all i d h ∙ ap (λ x. x ∷ drop (i + 1) all) (sym is)

-- the locals of a part and of the rest, and of the whole
brought_more : (a b c d e : List Local) → a ≡ b ++ c → b ++ (c ++ (d ++ [])) ≡ e → a ++ d ≡ e
brought_more a b c d e is whole = rw is (append_assoc b c d ∙ ap (λ x. b ++ (c ++ x)) (sym (append-nil d)) ∙ whole)

-- A loop over the further atoms of a sum.
pub record MoreLeft (now old : Lowering) (first : Atom) (left left0 : Operand) (rest all : List Atom) : Type 0 where
  pub operand : more_operand (names now (more_shape (types old) rest)) left rest ≡ more_operand (names old (more_shape (types old) all)) left0 all
  pub emitted : now.lines.items ++ more_lines (names now (more_shape (types old) rest)) old.variables.items first left rest ≡ old.lines.items ++ more_lines (names old (more_shape (types old) all)) old.variables.items first left0 all
  pub brought : now.locals.items ++ brings (more_shape (types old) rest) ≡ old.locals.items ++ brings (more_shape (types old) all)
  pub counted : vec_len now.locals + count (more_shape (types old) rest) ≡ vec_len old.locals + count (more_shape (types old) all)
  pub ready : AllByRecursion (IsAtomReady (vec_len old.variables)) rest
  pub variables : now.variables ≡ old.variables

more_step : (before after old : Lowering) (first : Atom) (left left0 new : Operand) (a : Atom) (rest all : List Atom)
    → MoreLeft before old first left left0 (a ∷ rest) all
    → new ≡ Temp (own (names before (addition_shape (types old) a)) 1)
    → after.lines.items ≡ before.lines.items ++ addition_lines (names before (addition_shape (types old) a)) old.variables.items first left a
    → after.locals.items ≡ before.locals.items ++ brings (addition_shape (types old) a)
    → vec_len after.locals ≡ vec_len before.locals + count (addition_shape (types old) a)
    → after.variables ≡ old.variables
    → MoreLeft after old first new left0 rest all
more_step before after old first left left0 new a rest all h e0 e1 e2 e3 e4 =
    let next : vec_len after.locals ≡ vec_len before.locals + count (atom_shape (types old) a) + 1 = omega arith in
    record {
      operand = rw (next, e0) h.operand;
      emitted = rw (e1, next, e0) (simp append_assoc h.emitted);
      brought = rw e2 (simp append_assoc (simp append-nil at h.brought));
      counted = let c = h.counted in omega arith;
      ready = h.ready.1;
      variables = e4;
    }

pub more_next : (before after old : Lowering) (first : Atom) (left left0 new : Operand) (a d : Atom) (all : List Atom) (i : ℕ) → i < length all → a ≡ get_or all i d
    → MoreLeft before old first left left0 (drop i all) all
    → new ≡ Temp (own (names before (addition_shape (types before) a)) 1)
    → after.lines.items ≡ before.lines.items ++ addition_lines (names before (addition_shape (types before) a)) before.variables.items first left a
    → after.locals.items ≡ before.locals.items ++ brings (addition_shape (types before) a)
    → vec_len after.locals ≡ vec_len before.locals + count (addition_shape (types before) a)
    → after.variables ≡ before.variables
    → MoreLeft after old first new left0 (drop (i + 1) all) all
more_next before after old first left left0 new a d all i less is h e0 e1 e2 e3 e4 =
    let v = h.variables in
    more_step before after old first left left0 new a (drop (i + 1) all) all
    (subst (λ r. MoreLeft before old first left left0 r all) (cut all i a d less is) h)
    (e0 ∙ ap (λ t. Temp (own (names before (addition_shape t a)) 1)) (same_types before old v))
    (e1 ∙ ap (λ x. before.lines.items ++ addition_lines (names before (addition_shape (types_of x) a)) x first left a) (same_items before old v))
    (e2 ∙ ap (λ t. before.locals.items ++ brings (addition_shape t a)) (same_types before old v))
    (e3 ∙ ap (λ t. vec_len before.locals + count (addition_shape t a)) (same_types before old v)) (e4 ∙ v)

-- A loop over the sums of a print.
pub record SumsLeft (now old : Lowering) (operands : List Operand) (rest all : List Sum) : Type 0 where
  pub operands_are : operands ++ sums_operands (names now (sums_shape (types old) rest)) rest ≡ sums_operands (names old (sums_shape (types old) all)) all
  pub emitted : now.lines.items ++ sums_lines (names now (sums_shape (types old) rest)) old.variables.items rest ≡ old.lines.items ++ sums_lines (names old (sums_shape (types old) all)) old.variables.items all
  pub brought : now.locals.items ++ brings (sums_shape (types old) rest) ≡ old.locals.items ++ brings (sums_shape (types old) all)
  pub counted : vec_len now.locals + count (sums_shape (types old) rest) ≡ vec_len old.locals + count (sums_shape (types old) all)
  pub ready : AllByRecursion (IsSumReady (vec_len old.variables)) rest
  pub variables : now.variables ≡ old.variables

sums_step : (before after old : Lowering) (operands operands' : List Operand) (operand : Operand) (a : Sum) (rest all : List Sum)
    → SumsLeft before old operands (a ∷ rest) all
    → operand ≡ sum_operand (names before (sum_shape (types old) a)) a → operands' ≡ operands ++ operand ∷ []
    → after.lines.items ≡ before.lines.items ++ sum_lines (names before (sum_shape (types old) a)) old.variables.items a
    → after.locals.items ≡ before.locals.items ++ brings (sum_shape (types old) a)
    → vec_len after.locals ≡ vec_len before.locals + count (sum_shape (types old) a)
    → after.variables ≡ old.variables
    → SumsLeft after old operands' rest all
sums_step before after old operands operands' operand a rest all h e e0 e1 e2 e3 e4 = record {
  operands_are = rw (e0, e, e3) (append_assoc operands (sum_operand (names before (sum_shape (types old) a)) a ∷ []) _ ∙ h.operands_are);
  emitted = rw (e1, e3) (append_assoc before.lines.items (sum_lines (names before (sum_shape (types old) a)) old.variables.items a) _ ∙ h.emitted);
  brought = brought_more _ _ _ _ _ e2 h.brought;
  counted = let c = h.counted in omega arith;
  ready = h.ready.1;
  variables = e4;
}

pub sums_next : (before after old : Lowering) (operands operands' : List Operand) (operand : Operand) (a : Sum) (all : List Sum) (i : ℕ) → i < length all → a ≡ get_or all i a
    → SumsLeft before old operands (drop i all) all
    → operand ≡ sum_operand (names before (sum_shape (types before) a)) a → operands' ≡ operands ++ operand ∷ []
    → after.lines.items ≡ before.lines.items ++ sum_lines (names before (sum_shape (types before) a)) before.variables.items a
    → after.locals.items ≡ before.locals.items ++ brings (sum_shape (types before) a)
    → vec_len after.locals ≡ vec_len before.locals + count (sum_shape (types before) a)
    → after.variables ≡ before.variables
    → SumsLeft after old operands' (drop (i + 1) all) all
sums_next before after old operands operands' operand a all i less is h e e0 e1 e2 e3 e4 =
    let v = h.variables in
    sums_step before after old operands operands' operand a (drop (i + 1) all) all
    (subst (λ r. SumsLeft before old operands r all) (cut all i a a less is) h)
    (e ∙ ap (λ t. sum_operand (names before (sum_shape t a)) a) (same_types before old v)) e0
    (e1 ∙ ap (λ x. before.lines.items ++ sum_lines (names before (sum_shape (types_of x) a)) x a) (same_items before old v))
    (e2 ∙ ap (λ t. before.locals.items ++ brings (sum_shape t a)) (same_types before old v))
    (e3 ∙ ap (λ t. vec_len before.locals + count (sum_shape t a)) (same_types before old v)) (e4 ∙ v)

-- A loop over the statements of an `unsafe` block.
pub record InnersLeft (now old : Lowering) (rest all : List Inner) : Type 0 where
  pub emitted : now.lines.items ++ inners_lines (names now (inners_shape (types old) rest)) old.variables.items rest ≡ old.lines.items ++ inners_lines (names old (inners_shape (types old) all)) old.variables.items all
  pub brought : now.locals.items ++ brings (inners_shape (types old) rest) ≡ old.locals.items ++ brings (inners_shape (types old) all)
  pub counted : vec_len now.locals + count (inners_shape (types old) rest) ≡ vec_len old.locals + count (inners_shape (types old) all)
  pub ready : AllByRecursion (IsInnerReady (vec_len old.variables)) rest
  pub variables : now.variables ≡ old.variables

inners_step : (before after old : Lowering) (a : Inner) (rest all : List Inner)
    → InnersLeft before old (a ∷ rest) all
    → after.lines.items ≡ before.lines.items ++ inner_lines (names before (inner_shape (types old) a)) old.variables.items a
    → after.locals.items ≡ before.locals.items ++ brings (inner_shape (types old) a)
    → vec_len after.locals ≡ vec_len before.locals + count (inner_shape (types old) a)
    → after.variables ≡ old.variables
    → InnersLeft after old rest all
inners_step before after old a rest all h e1 e2 e3 e4 = record {
  emitted = rw (e1, e3) (append_assoc before.lines.items (inner_lines (names before (inner_shape (types old) a)) old.variables.items a) _ ∙ h.emitted);
  brought = brought_more _ _ _ _ _ e2 h.brought;
  counted = let c = h.counted in omega arith;
  ready = h.ready.1;
  variables = e4;
}

pub inners_next : (before after old : Lowering) (a : Inner) (all : List Inner) (i : ℕ) → i < length all → a ≡ get_or all i a
    → InnersLeft before old (drop i all) all
    → after.lines.items ≡ before.lines.items ++ inner_lines (names before (inner_shape (types before) a)) before.variables.items a
    → after.locals.items ≡ before.locals.items ++ brings (inner_shape (types before) a)
    → vec_len after.locals ≡ vec_len before.locals + count (inner_shape (types before) a)
    → after.variables ≡ before.variables
    → InnersLeft after old (drop (i + 1) all) all
inners_next before after old a all i less is h e1 e2 e3 e4 =
    let v = h.variables in
    inners_step before after old a (drop (i + 1) all) all
    (subst (λ r. InnersLeft before old r all) (cut all i a a less is) h)
    (e1 ∙ ap (λ x. before.lines.items ++ inner_lines (names before (inner_shape (types_of x) a)) x a) (same_items before old v))
    (e2 ∙ ap (λ t. before.locals.items ++ brings (inner_shape t a)) (same_types before old v))
    (e3 ∙ ap (λ t. vec_len before.locals + count (inner_shape t a)) (same_types before old v)) (e4 ∙ v)

-- A loop over statements.
pub record StatementsLeft (now old : Lowering) (rest all : List Statement) : Type 0 where
  pub emitted : now.lines.items ++ statements_lines (names now (statements_shape (types now) rest)) now.variables.items rest ≡ old.lines.items ++ statements_lines (names old (statements_shape (types old) all)) old.variables.items all
  pub brought : now.locals.items ++ brings (statements_shape (types now) rest) ≡ old.locals.items ++ brings (statements_shape (types old) all)
  pub counted : vec_len now.locals + count (statements_shape (types now) rest) ≡ vec_len old.locals + count (statements_shape (types old) all)
  pub ready : AreReady (vec_len now.variables) rest
  pub declared_are : all_declared (names now (statements_shape (types now) rest)) now.variables.items rest ≡ all_declared (names old (statements_shape (types old) all)) old.variables.items all

-- the types of the variables behind a statement
types_after : (at : Naming) (variables : List Declared) (s : Statement) → types_of (variables ++ declared at s) ≡ types_of variables ++ declared_types s
types_after at variables (statement.Let binding) = map-append (λ v. v.ty) variables _
types_after at variables (statement.Assign assign) = map-append (λ v. v.ty) variables _
types_after at variables (statement.Print print) = map-append (λ v. v.ty) variables _
types_after at variables (statement.Unsafe block) = map-append (λ v. v.ty) variables _

-- how many there are
lets_after : (at : Naming) (s : Statement) → length (declared at s) ≡ length (bindings s)
lets_after at (statement.Let binding) = refl
lets_after at (statement.Assign assign) = refl
lets_after at (statement.Print print) = refl
lets_after at (statement.Unsafe block) = refl

pub statements_next : (before after old : Lowering) (s : Statement) (rest all : List Statement) (is_last : Bool)
    → StatementsLeft before old (s ∷ rest) all → is_last ≡ is_none rest
    → after.lines.items ≡ before.lines.items ++ statement_lines (names before (statement_shape (types before) s)) before.variables.items is_last s
    → after.locals.items ≡ before.locals.items ++ brings (statement_shape (types before) s)
    → vec_len after.locals ≡ vec_len before.locals + count (statement_shape (types before) s)
    → after.variables.items ≡ before.variables.items ++ declared (names before (statement_shape (types before) s)) s
    → StatementsLeft after old rest all
statements_next before after old s rest all is_last h e0 e1 e2 e3 e4 =
    let t : types after ≡ types before ++ declared_types s = ap types_of e4 ∙ types_after (names before (statement_shape (types before) s)) before.variables.items s in
    let longer : length after.variables.items ≡ length before.variables.items + length (bindings s) =
    ap length e4 ∙ length-append before.variables.items _ ∙ ap (λ n. length before.variables.items + n) (lets_after (names before (statement_shape (types before) s)) s) in
    let lets : vec_len before.variables + length (bindings s) ≡ vec_len after.variables = omega (arith, longer, before.variables.ok.0, after.variables.ok.0) in
    record {
      emitted = rw (e1, e0, t, e3, e4) (append_assoc before.lines.items (statement_lines (names before (statement_shape (types before) s)) before.variables.items (is_none rest) s) _ ∙ h.emitted);
      brought = rw t (brought_more _ _ _ _ _ e2 h.brought);
      counted = rw t (let c = h.counted in omega arith);
      ready = subst (λ n. AreReady n rest) lets h.ready.1;
      declared_are = rw (t, e3, e4) h.declared_are;
    }

-- the first statement and the others
pub cut_first : {A : Type 0} (list : List A) (a : A) → 1 ≤ length list → a ≡ get_or list 0 a → list ≡ a ∷ take (length list - 1) (drop 1 list)
cut_first [] a some is = absurd (omega arith)
cut_first (x ∷ xs) a some is =
    let long : suc (length xs) - 1 ≡ length xs = omega arith in
    rw long (ap (λ l. x ∷ l) (sym (take_all (length xs) xs (omega arith))) ∙ ap (λ y. y ∷ take (length xs) xs) (sym is))

pub none_is : (list : List Statement) → (length list == 0) ≡ is_none list
none_is [] = refl
none_is (s ∷ list) = grind (arith, nat_tests)
