-- Marks: what is read stands there, and what stands there is read.
use Rattle.std.proofs.Common.{◌≡◌, ℕ, ◌<◌, Bool, true, false, if◌then◌else◌, ◌||◌, ◌&&◌, not, [], ◌∷◌, length, Option, Some, None, refl, sym, ap, subst, ◌∙◌, inl, inr, rules, arith}
use Rattle.tb_perm.specs.declared.span.Span.{Span}
use Rattle.tb_lex.specs.declared.punctuation.Punctuation.{Punctuation}
use Rattle.tb_lex.specs.declared.punctuation.Punctuation.TheVariants.{And, AndAnd, Gt, Ge, Shr, ShrEq, Eq, Comma, Pound}
use Rattle.tb_lex.specs.declared.token.TokenKind.{TokenKind}
use Rattle.tb_lex.specs.declared.token.TokenKind.TheVariants as kind
use Rattle.tb_ast.specs.declared.piece.Piece.{Piece}
use Rattle.tb_ast.specs.declared.leaf.Mark.{Mark}
use Rattle.tb_ast.specs.Pieces.{punct, mark}
use Rattle.tb_ast.specs.Joined.{with_mark, with_kind}
use Rattle.tb_syntax.specs.Reading.{◌>>=◌}
use Rattle.tb_syntax.specs.State.{State, left_of, behind, Begins}
use Rattle.tb_syntax.specs.Marks.{same_mark, left_behind, mark_of, first_mark, part_at, taken, mark_at, punct_at, is_some, begins_mark, has_mark}
use Rattle.tb_syntax.proofs.Options.{bind_some, left, chosen, some_is}

pub same_is : (a b : Punctuation) → same_mark a b ≡ true → a ≡ b
same_is a b h = search rules

pub same_self : (a : Punctuation) → same_mark a a ≡ true
same_self a = search rules

-- what is taken off a token and what is left are that token
split_joint : (wanted found left : Punctuation) → left_behind wanted found ≡ Some left → with_mark wanted left ≡ Some found
split_joint And AndAnd left e = let l : And ≡ left = some_is And left e in rw (sym l) refl
split_joint And found left e = absurd cc
split_joint Gt Shr left e = let l : Gt ≡ left = some_is Gt left e in rw (sym l) refl
split_joint Gt Ge left e = let l : Eq ≡ left = some_is Eq left e in rw (sym l) refl
split_joint Gt ShrEq left e = let l : Ge ≡ left = some_is Ge left e in rw (sym l) refl
split_joint Gt found left e = absurd cc
split_joint wanted other left e = absurd cc

joint_split : (wanted left whole : Punctuation) → with_mark wanted left ≡ Some whole → (left_behind wanted whole ≡ Some left) × (same_mark whole wanted ≡ false)
joint_split And And whole e = let l : AndAnd ≡ whole = some_is AndAnd whole e in rw (sym l) (refl, refl)
joint_split And left whole e = absurd cc
joint_split Gt Gt whole e = let l : Shr ≡ whole = some_is Shr whole e in rw (sym l) (refl, refl)
joint_split Gt Eq whole e = let l : Ge ≡ whole = some_is Ge whole e in rw (sym l) (refl, refl)
joint_split Gt Ge whole e = let l : ShrEq ≡ whole = some_is ShrEq whole e in rw (sym l) (refl, refl)
joint_split Gt left whole e = absurd cc
joint_split wanted left whole e = absurd cc

abbrev piece_at : Punctuation → Mark → Piece
piece_at found at = record { kind = kind.Punctuation found; span = at.span; glued = at.glued }

part-sound : (wanted found : Punctuation) (at : Mark) (state : State) (o : Option Punctuation) (m : Mark) (rest : State)
    → left_behind wanted found ≡ o → part_at o at state ≡ Some (m, rest) → Begins (mark wanted m) (piece_at found at ∷ state) rest
part-sound wanted found at state None m rest q e = absurd cc
part-sound wanted found at state (Some left) m rest q e =
    let is : Mark × State → Type 0 = λ y. Begins (mark wanted y.0) (piece_at found at ∷ state) y.1 in
    let lo = at.span.lo in
    let part : Mark = record { span = record { lo = lo; hi = behind lo }; glued = at.glued } in
    let other : Piece = left_of left (record { lo = behind lo; hi = at.span.hi }) in
    subst is (some_is (part, other ∷ state) (m, rest) e)
    (inr (record { left = other; after = state; whole = found; joint = split_joint wanted found left q; short = refl; tight = refl; stands = refl; follows = refl }))

taken-sound : (wanted found : Punctuation) (at : Mark) (state : State) (m : Mark) (rest : State)
    → taken wanted found at state ≡ Some (m, rest) → Begins (mark wanted m) (piece_at found at ∷ state) rest
taken-sound wanted found at state m rest e =
    let is : Mark × State → Type 0 = λ y. Begins (mark wanted y.0) (piece_at found at ∷ state) y.1 in
    elim (chosen (same_mark found wanted) (Some (at, state)) (part_at (left_behind wanted found) at state) (m, rest) e) [
      | inl k ↦ subst is (some_is (at, state) (m, rest) k.1) (inl (ap (λ f. piece_at f at ∷ state) (same_is found wanted k.0)))
      | inr k ↦ part-sound wanted found at state (left_behind wanted found) m rest refl k.1
    ]

kind-sound : (wanted : Punctuation) (k : TokenKind) (at : Mark) (state : State) (m : Mark) (rest : State)
    → (mark_of k >>= λ found. taken wanted found at state) ≡ Some (m, rest) → Begins (mark wanted m) (record { kind = k; span = at.span; glued = at.glued } ∷ state) rest
kind-sound wanted (kind.Punctuation found) at state m rest e = taken-sound wanted found at state m rest e
kind-sound wanted k at state m rest e = absurd cc

abbrev front : Punctuation → Mark → State → Option (Punctuation × Mark × State)
front found at state = Some (found, at, state)

kind-step : (wanted : Punctuation) (k : TokenKind) (at : Mark) (state : State)
    → ((mark_of k >>= λ mark. front mark at state) >>= λ x. taken wanted x.0 x.1 x.2) ≡ (mark_of k >>= λ found. taken wanted found at state)
kind-step wanted (kind.Punctuation found) at state = refl
kind-step wanted k at state = refl

pub mark-sound : (wanted : Punctuation) (state : State) (m : Mark) (rest : State) → mark_at wanted state ≡ Some (m, rest) → Begins (mark wanted m) state rest
unfolding mark_at
mark-sound wanted [] m rest e = absurd cc
mark-sound wanted (piece ∷ state) m rest e =
    let at : Mark = record { span = piece.span; glued = piece.glued } in
    kind-sound wanted piece.kind at state m rest (sym (kind-step wanted piece.kind at state) ∙ e)

part-complete : (wanted whole : Punctuation) (lo : ℕ) (glued : Bool) (k : TokenKind) (end : ℕ) (other : Bool) (after : State)
    → (if other then with_kind (kind.Punctuation wanted) k else None) ≡ Some whole
    → taken wanted whole (record { span = record { lo = lo; hi = end }; glued = glued }) after
    ≡ Some (record { span = record { lo = lo; hi = behind lo }; glued = glued }, record { kind = k; span = record { lo = behind lo; hi = end }; glued = other } ∷ after)
part-complete wanted whole lo glued (kind.Punctuation left) end true after e =
    let s = joint_split wanted left whole e in rw (s.1, s.0) refl
part-complete wanted whole lo glued k end true after e = absurd cc
part-complete wanted whole lo glued k end false after e = absurd cc

pub mark-complete : (wanted : Punctuation) (state : State) (m : Mark) (rest : State) → Begins (mark wanted m) state rest → mark_at wanted state ≡ Some (m, rest)
unfolding mark_at
mark-complete wanted state m rest (inl e) = rw e (rw (same_self wanted) refl)
mark-complete wanted state m rest (inr part) =
    let whole = part.whole in
    let other = part.left in
    let lo = m.span.lo in
    let end = other.span.hi in
    let read : taken wanted whole (record { span = record { lo = lo; hi = end }; glued = m.glued }) part.after
    ≡ Some (record { span = record { lo = lo; hi = behind lo }; glued = m.glued }, record { kind = other.kind; span = record { lo = behind lo; hi = end }; glued = other.glued } ∷ part.after) =
    part-complete wanted whole lo m.glued other.kind end other.glued part.after part.joint in
    let at : ℕ → ℕ → Option (Mark × State) = λ hi low. Some (record { span = record { lo = lo; hi = hi }; glued = m.glued }, record { kind = other.kind; span = record { lo = low; hi = end }; glued = other.glued } ∷ part.after) in
    let to : State → Option (Mark × State) = λ r. Some (m, r) in
    ap (mark_at wanted) part.stands ∙ read
    ∙ ap (λ hi. at hi (behind lo)) (sym part.short) ∙ ap (at m.span.hi) (sym part.short ∙ sym part.tight) ∙ ap to (sym part.follows)

-- a mark that is read comes next
some-left : (o : Option Punctuation) (at : Mark) (state : State) (y : Mark × State) → part_at o at state ≡ Some y → is_some o ≡ true
some-left None at state y e = absurd cc
some-left (Some o) at state y e = refl

or-second : (a b : Bool) → b ≡ true → (a || b) ≡ true
or-second true b e = refl
or-second false b e = e

has-taken : (wanted found : Punctuation) (at : Mark) (state : State) (y : Mark × State) → taken wanted found at state ≡ Some y → (same_mark found wanted || is_some (left_behind wanted found)) ≡ true
has-taken wanted found at state y e =
    elim (chosen (same_mark found wanted) (Some (at, state)) (part_at (left_behind wanted found) at state) y e) [
      | inl k ↦ rw k.0 refl
      | inr k ↦ or-second (same_mark found wanted) (is_some (left_behind wanted found)) (some-left (left_behind wanted found) at state y k.1)
    ]

pub mark-has : (wanted : Punctuation) (state : State) (y : Mark × State) → mark_at wanted state ≡ Some y → has_mark wanted state ≡ true
unfolding mark_at has_mark
mark-has wanted state y e =
    let x = bind_some (first_mark state) _ y e in
    ap (begins_mark wanted) x.1 ∙ has-taken wanted x.0.0 x.0.1 x.0.2 y x.2

pub punct-sound : (wanted : Punctuation) (state : State) (span : Span) (rest : State) → punct_at wanted state ≡ Some (span, rest) → Begins (punct wanted span) state rest
unfolding punct_at
punct-sound wanted state span rest e =
    let x = bind_some (mark_at wanted state) _ (span, rest) e in
    let k = left x.0.0.glued (Some (x.0.0.span, x.0.1)) (span, rest) x.2 in
    let is : Span × State → Type 0 = λ y. Begins (punct wanted y.0) state y.1 in
    let begins : Begins (mark wanted x.0.0) state x.0.1 = mark-sound wanted state x.0.0 x.0.1 x.1 in
    let plain : Begins (punct wanted x.0.0.span) state x.0.1 = subst (λ g. Begins (record { kind = kind.Punctuation wanted; span = x.0.0.span; glued = g }) state x.0.1) k.0 begins in
    subst is (some_is (x.0.0.span, x.0.1) (span, rest) k.1) plain

pub punct-complete : (wanted : Punctuation) (state : State) (span : Span) (rest : State) → Begins (punct wanted span) state rest → punct_at wanted state ≡ Some (span, rest)
unfolding punct_at
punct-complete wanted state span rest h =
    let plain : Mark = record { span = span; glued = false } in
    let read : mark_at wanted state ≡ Some (plain, rest) = mark-complete wanted state plain rest h in
    rw read refl

-- Marks beside one another.

-- this mark comes next where that token does
abbrev pub shows : Punctuation → Punctuation → Bool
shows wanted found = same_mark found wanted || is_some (left_behind wanted found)

-- where the first mark stands the second does not come next
abbrev pub alone : Punctuation → Punctuation → Bool
alone And other = not (shows other And) && not (shows other AndAnd)
alone Gt other = not (shows other Gt) && (not (shows other Shr) && (not (shows other Ge) && not (shows other ShrEq)))
alone mark other = not (shows other mark)

not_is : (x : Bool) → not x ≡ true → x ≡ false
not_is true e = absurd cc
not_is false e = refl

both : (x y : Bool) → (x && y) ≡ true → (x ≡ true) × (y ≡ true)
both true y e = (refl, e)
both false y e = absurd cc

first-alone : (mark other : Punctuation) → alone mark other ≡ true → shows other mark ≡ false
first-alone And other e = not_is (shows other And) (both (not (shows other And)) (not (shows other AndAnd)) e).0
first-alone Gt other e = not_is (shows other Gt) (both (not (shows other Gt)) (not (shows other Shr) && (not (shows other Ge) && not (shows other ShrEq))) e).0
first-alone mark other e = not_is (shows other mark) e

whole-alone : (mark other left whole : Punctuation) → with_mark mark left ≡ Some whole → alone mark other ≡ true → shows other whole ≡ false
whole-alone And other And whole q e =
    let l : AndAnd ≡ whole = some_is AndAnd whole q in
    rw (sym l) (not_is (shows other AndAnd) (both (not (shows other And)) (not (shows other AndAnd)) e).1)
whole-alone And other left whole q e = absurd cc
whole-alone Gt other Gt whole q e =
    let l : Shr ≡ whole = some_is Shr whole q in
    let b = both (not (shows other Gt)) (not (shows other Shr) && (not (shows other Ge) && not (shows other ShrEq))) e in
    rw (sym l) (not_is (shows other Shr) (both (not (shows other Shr)) (not (shows other Ge) && not (shows other ShrEq)) b.1).0)
whole-alone Gt other Eq whole q e =
    let l : Ge ≡ whole = some_is Ge whole q in
    let b = both (not (shows other Gt)) (not (shows other Shr) && (not (shows other Ge) && not (shows other ShrEq))) e in
    let c = both (not (shows other Shr)) (not (shows other Ge) && not (shows other ShrEq)) b.1 in
    rw (sym l) (not_is (shows other Ge) (both (not (shows other Ge)) (not (shows other ShrEq)) c.1).0)
whole-alone Gt other Ge whole q e =
    let l : ShrEq ≡ whole = some_is ShrEq whole q in
    let b = both (not (shows other Gt)) (not (shows other Shr) && (not (shows other Ge) && not (shows other ShrEq))) e in
    let c = both (not (shows other Shr)) (not (shows other Ge) && not (shows other ShrEq)) b.1 in
    rw (sym l) (not_is (shows other ShrEq) (both (not (shows other Ge)) (not (shows other ShrEq)) c.1).1)
whole-alone Gt other left whole q e = absurd cc
whole-alone mark other left whole q e = absurd cc

joint-kinds : (first : Punctuation) (k : TokenKind) (glued : Bool) (whole : Punctuation) → (if glued then with_kind (kind.Punctuation first) k else None) ≡ Some whole
    → (left : Punctuation) × (with_mark first left ≡ Some whole)
joint-kinds first (kind.Punctuation left) true whole e = (left, e)
joint-kinds first k true whole e = absurd cc
joint-kinds first k false whole e = absurd cc

pub other-mark : (first other : Punctuation) (m : Mark) (state rest : State) → alone first other ≡ true → Begins (mark first m) state rest → has_mark other state ≡ false
unfolding has_mark
other-mark first other m state rest e (inl is) = rw is (first-alone first other e)
other-mark first other m state rest e (inr part) =
    let k = joint-kinds first part.left.kind part.left.glued part.whole part.joint in
    rw part.stands (whole-alone first other k.0 part.whole k.1 e)

-- a comma is read whole
pub comma-shorter : (span : Span) (state rest : State) → Begins (punct Comma span) state rest → length rest < length state
comma-shorter span state rest (inl e) = let l : length state ≡ length (punct Comma span ∷ rest) = ap length e in omega arith
comma-shorter span state rest (inr part) =
    let k = joint-kinds Comma part.left.kind part.left.glued part.whole part.joint in
    let bad = k.1 in
    absurd cc

-- a `#` is read whole
pub pound-shorter : (span : Span) (state rest : State) → Begins (punct Pound span) state rest → length rest < length state
pound-shorter span state rest (inl e) = let l : length state ≡ length (punct Pound span ∷ rest) = ap length e in omega arith
pound-shorter span state rest (inr part) =
    let k = joint-kinds Pound part.left.kind part.left.glued part.whole part.joint in
    let bad = k.1 in
    absurd cc
