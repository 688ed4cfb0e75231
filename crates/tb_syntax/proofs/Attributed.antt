-- Attributes: what is read stands there, and what stands there is read.
use Rattle.std.proofs.Common.{◌≡◌, ℕ, ◌<◌, true, false, List, [], ◌∷◌, ◌++◌, map, length, Option, Some, refl, sym, ap, subst, ◌∙◌, inl, inr, arith}
use Rattle.std.specs.Prelude.{codes}
use Rattle.std.specs.List.{AllByRecursion}
use Rattle.std.specs.Str.{bytes_eq}
use Rattle.tb_perm.specs.declared.span.Span.{Span}
use Rattle.tb_lex.specs.declared.punctuation.Punctuation.TheVariants.{OpenParen, CloseParen, OpenBracket, CloseBracket, Pound, Not, Comma}
use Rattle.tb_lex.specs.declared.token.TokenKind.TheVariants as kind
use Rattle.tb_ast.specs.declared.leaf.Mark.{Mark}
use Rattle.tb_ast.specs.declared.item.InnerAttribute.{InnerAttribute}
use Rattle.tb_ast.specs.declared.item.Attribute.{Attribute}
use Rattle.tb_ast.specs.declared.item.Meta.{Meta}
use Rattle.tb_ast.specs.declared.item.Meta.TheVariants.{Allow, Derive, Repr as Represents}
use Rattle.tb_ast.specs.declared.item.Repr.{Repr}
use Rattle.tb_ast.specs.declared.item.WordList.{WordList}
use Rattle.tb_ast.specs.Pieces.{punct, word, named, in_order}
use Rattle.tb_ast.specs.Files.{word_list, inner_row, repr_row, meta_row, attribute_row}
use Rattle.tb_syntax.specs.State.{State, Begins, Stands}
use Rattle.tb_syntax.specs.Marks.{mark_at, punct_at, has_mark}
use Rattle.tb_syntax.specs.Leaves.{name_at, word_at}
use Rattle.tb_syntax.specs.Lists.{listed_at}
use Rattle.tb_syntax.specs.Paths.{from_to}
use Rattle.tb_syntax.specs.Attributes.{has_word, words_at, repr_at, meta_at, inner_at, attribute_at, begins_bang, has_inner, inners_at, attributes_at, IsWordList, IsMeta, IsInner, IsAttribute}
use Rattle.tb_syntax.proofs.Options.{bind_some, chosen, some_is}
use Rattle.tb_syntax.proofs.Chains.{stands-then, stands-split, stands-one, one-stands, stands-shrinks}
use Rattle.tb_syntax.proofs.Marks.{mark-complete, punct-sound, punct-complete, pound-shorter}
use Rattle.tb_syntax.proofs.Tokens.{token-complete, name-sound, name-complete, word-sound, word-complete}
use Rattle.tb_syntax.proofs.Listed.{begins-has}
use Rattle.tb_syntax.proofs.Runs.{idents-take, idents-complete, IsRun, repeated-sound, repeated-complete}

word-list-sound : (name : List ℕ) (state : State) (y : WordList × State) → words_at name state ≡ Some y → Stands (word_list name y.0) state y.1 × IsWordList y.0
unfolding words_at
word-list-sound name state y e =
    let w = bind_some (word_at name state) _ y e in
    let opening = bind_some (punct_at OpenParen w.0.1) _ y w.2 in
    let list = bind_some (listed_at name_at CloseParen opening.0.1) _ y opening.2 in
    let closing = bind_some (punct_at CloseParen list.0.1) _ y list.2 in
    let l = idents-take CloseParen opening.0.1 list.0 list.1 in
    let is : WordList × State → Type 0 = λ y. Stands (word_list name y.0) state y.1 × IsWordList y.0 in
    subst is (some_is (record { word = w.0.0; opening = opening.0.0; names = list.0.0.0; commas = list.0.0.1; closing = closing.0.0 }, closing.0.1) y closing.2) (
      (
        w.0.1,
        word-sound name state w.0.0 w.0.1 w.1,
        (
          opening.0.1,
          punct-sound OpenParen w.0.1 opening.0.0 opening.0.1 opening.1,
          stands-then (named Comma list.0.0.0 list.0.0.1) (punct CloseParen closing.0.0 ∷ []) opening.0.1 list.0.1 closing.0.1 l.0
              (one-stands (punct CloseParen closing.0.0) list.0.1 closing.0.1 (punct-sound CloseParen list.0.1 closing.0.0 closing.0.1 closing.1)),
        ),
      ),
      l.1,
    )

word-list-complete : (name : List ℕ) (state : State) (list : WordList) (rest : State) → IsWordList list → Stands (word_list name list) state rest → words_at name state ≡ Some (list, rest)
unfolding words_at
word-list-complete name state list rest is h =
    let o = h.2 in
    let s = stands-split (named Comma list.names list.commas) (punct CloseParen list.closing ∷ []) o.0 rest o.2 in
    let last = stands-one (punct CloseParen list.closing) s.0 rest s.2 in
    rw (word-complete name state list.word h.0 h.1) (rw (punct-complete OpenParen h.0 list.opening o.0 o.1)
    (rw (idents-complete CloseParen refl o.0 list.names list.commas (record { span = list.closing; glued = false }) s.0 rest is s.1 last) (rw (punct-complete CloseParen s.0 list.closing rest last) refl)))

represents-sound : (state : State) (y : Repr × State) → repr_at state ≡ Some y → Stands (repr_row y.0) state y.1
unfolding repr_at
represents-sound state y e =
    let w = bind_some (word_at (codes "repr") state) _ y e in
    let opening = bind_some (punct_at OpenParen w.0.1) _ y w.2 in
    let name = bind_some (name_at opening.0.1) _ y opening.2 in
    let closing = bind_some (punct_at CloseParen name.0.1) _ y name.2 in
    let is : Repr × State → Type 0 = λ y. Stands (repr_row y.0) state y.1 in
    subst is (some_is (record { word = w.0.0; opening = opening.0.0; name = name.0.0; closing = closing.0.0 }, closing.0.1) y closing.2) (
      w.0.1,
      word-sound (codes "repr") state w.0.0 w.0.1 w.1,
      (
        opening.0.1,
        punct-sound OpenParen w.0.1 opening.0.0 opening.0.1 opening.1,
        (name.0.1, name-sound opening.0.1 name.0.0 name.0.1 name.1, one-stands (punct CloseParen closing.0.0) name.0.1 closing.0.1 (punct-sound CloseParen name.0.1 closing.0.0 closing.0.1 closing.1)),
      ),
    )

represents-complete : (state : State) (repr : Repr) (rest : State) → Stands (repr_row repr) state rest → repr_at state ≡ Some (repr, rest)
unfolding repr_at
represents-complete state repr rest h =
    let o = h.2 in
    let n = o.2 in
    let last = stands-one (punct CloseParen repr.closing) n.0 rest n.2 in
    rw (word-complete (codes "repr") state repr.word h.0 h.1) (rw (punct-complete OpenParen h.0 repr.opening o.0 o.1) (rw (name-complete o.0 repr.name n.0 n.1) (rw (punct-complete CloseParen n.0 repr.closing rest last) refl)))

-- a word that stands there is it, and is none that is written otherwise
word-tells : (wanted found : List ℕ) (span : Span) (state rest : State) → Begins (word found span) state rest → has_word wanted state ≡ bytes_eq found wanted
unfolding has_word
word-tells wanted found span state rest h = rw (token-complete (kind.Name (record { bytes = found })) span state rest refl h) refl

TakenMeta : State → Meta × State → Type 0
TakenMeta state y = Stands (meta_row y.0) state y.1 × IsMeta y.0

meta-sound : (state : State) (y : Meta × State) → meta_at state ≡ Some y → TakenMeta state y
unfolding meta_at TakenMeta
meta-sound state y e =
    elim (chosen (has_word (codes "allow") state) _ _ y e) [
      | inl a ↦
          let x = bind_some (words_at (codes "allow") state) _ y a.1 in
          subst (TakenMeta state) (some_is (Allow x.0.0, x.0.1) y x.2) (word-list-sound (codes "allow") state x.0 x.1)
      | inr a ↦ elim (chosen (has_word (codes "derive") state) _ _ y a.1) [
        | inl b ↦
            let x = bind_some (words_at (codes "derive") state) _ y b.1 in
            subst (TakenMeta state) (some_is (Derive x.0.0, x.0.1) y x.2) (word-list-sound (codes "derive") state x.0 x.1)
        | inr b ↦
            let x = bind_some (repr_at state) _ y b.1 in
            subst (TakenMeta state) (some_is (Represents x.0.0, x.0.1) y x.2) (represents-sound state x.0 x.1, tt)
      ]
    ]

meta-complete : (state : State) (meta : Meta) (rest : State) → IsMeta meta → Stands (meta_row meta) state rest → meta_at state ≡ Some (meta, rest)
unfolding meta_at
meta-complete state (Allow list) rest is h =
    rw (word-tells (codes "allow") (codes "allow") list.word state h.0 h.1) (rw (word-list-complete (codes "allow") state list rest is h) refl)
meta-complete state (Derive list) rest is h =
    rw (word-tells (codes "allow") (codes "derive") list.word state h.0 h.1, word-tells (codes "derive") (codes "derive") list.word state h.0 h.1) (rw (word-list-complete (codes "derive") state list rest is h) refl)
meta-complete state (Represents repr) rest is h =
    rw (word-tells (codes "allow") (codes "repr") repr.word state h.0 h.1, word-tells (codes "derive") (codes "repr") repr.word state h.0 h.1) (rw (represents-complete state repr rest h) refl)

pub attribute-sound : (state : State) (attribute : Attribute) (rest : State) → attribute_at state ≡ Some (attribute, rest) → Stands (attribute_row attribute) state rest × IsAttribute attribute
unfolding attribute_at TakenMeta
attribute-sound state attribute rest e =
    let pound = bind_some (punct_at Pound state) _ (attribute, rest) e in
    let opening = bind_some (punct_at OpenBracket pound.0.1) _ (attribute, rest) pound.2 in
    let meta = bind_some (meta_at opening.0.1) _ (attribute, rest) opening.2 in
    let closing = bind_some (punct_at CloseBracket meta.0.1) _ (attribute, rest) meta.2 in
    let m = meta-sound opening.0.1 meta.0 meta.1 in
    let is : Attribute × State → Type 0 = λ y. Stands (attribute_row y.0) state y.1 × IsAttribute y.0 in
    subst is (some_is (record { span = from_to pound.0.0 closing.0.0; pound = pound.0.0; opening = opening.0.0; meta = meta.0.0; closing = closing.0.0 }, closing.0.1) (attribute, rest) closing.2) (
      (
        pound.0.1,
        punct-sound Pound state pound.0.0 pound.0.1 pound.1,
        (
          opening.0.1,
          punct-sound OpenBracket pound.0.1 opening.0.0 opening.0.1 opening.1,
          stands-then (meta_row meta.0.0) (punct CloseBracket closing.0.0 ∷ []) opening.0.1 meta.0.1 closing.0.1 m.0
              (one-stands (punct CloseBracket closing.0.0) meta.0.1 closing.0.1 (punct-sound CloseBracket meta.0.1 closing.0.0 closing.0.1 closing.1)),
        ),
      ),
      (refl, m.1),
    )

pub attribute-complete : (state : State) (attribute : Attribute) (rest : State) → IsAttribute attribute → Stands (attribute_row attribute) state rest → attribute_at state ≡ Some (attribute, rest)
unfolding attribute_at
attribute-complete state attribute rest is h =
    let o = h.2 in
    let s = stands-split (meta_row attribute.meta) (punct CloseBracket attribute.closing ∷ []) o.0 rest o.2 in
    let last = stands-one (punct CloseBracket attribute.closing) s.0 rest s.2 in
    let at : Span → Option (Attribute × State) = λ span. Some (record { span = span; pound = attribute.pound; opening = attribute.opening; meta = attribute.meta; closing = attribute.closing }, rest) in
    rw (punct-complete Pound state attribute.pound h.0 h.1) (rw (punct-complete OpenBracket h.0 attribute.opening o.0 o.1) (rw (meta-complete o.0 attribute.meta s.0 is.1 s.1) (rw (punct-complete CloseBracket s.0 attribute.closing rest last) (ap at (sym is.0)))))

pub inner-sound : (state : State) (inner : InnerAttribute) (rest : State) → inner_at state ≡ Some (inner, rest) → Stands (inner_row inner) state rest × IsInner inner
unfolding inner_at
inner-sound state inner rest e =
    let pound = bind_some (punct_at Pound state) _ (inner, rest) e in
    let bang = bind_some (punct_at Not pound.0.1) _ (inner, rest) pound.2 in
    let opening = bind_some (punct_at OpenBracket bang.0.1) _ (inner, rest) bang.2 in
    let allow = bind_some (words_at (codes "allow") opening.0.1) _ (inner, rest) opening.2 in
    let closing = bind_some (punct_at CloseBracket allow.0.1) _ (inner, rest) allow.2 in
    let w = word-list-sound (codes "allow") opening.0.1 allow.0 allow.1 in
    let is : InnerAttribute × State → Type 0 = λ y. Stands (inner_row y.0) state y.1 × IsInner y.0 in
    subst is (some_is (record { span = from_to pound.0.0 closing.0.0; pound = pound.0.0; bang = bang.0.0; opening = opening.0.0; allow = allow.0.0; closing = closing.0.0 }, closing.0.1) (inner, rest) closing.2) (
      (
        pound.0.1,
        punct-sound Pound state pound.0.0 pound.0.1 pound.1,
        (
          bang.0.1,
          punct-sound Not pound.0.1 bang.0.0 bang.0.1 bang.1,
          (
            opening.0.1,
            punct-sound OpenBracket bang.0.1 opening.0.0 opening.0.1 opening.1,
            stands-then (word_list (codes "allow") allow.0.0) (punct CloseBracket closing.0.0 ∷ []) opening.0.1 allow.0.1 closing.0.1 w.0
                (one-stands (punct CloseBracket closing.0.0) allow.0.1 closing.0.1 (punct-sound CloseBracket allow.0.1 closing.0.0 closing.0.1 closing.1)),
          ),
        ),
      ),
      (refl, w.1),
    )

pub inner-complete : (state : State) (inner : InnerAttribute) (rest : State) → IsInner inner → Stands (inner_row inner) state rest → inner_at state ≡ Some (inner, rest)
unfolding inner_at
inner-complete state inner rest is h =
    let b = h.2 in
    let o = b.2 in
    let s = stands-split (word_list (codes "allow") inner.allow) (punct CloseBracket inner.closing ∷ []) o.0 rest o.2 in
    let last = stands-one (punct CloseBracket inner.closing) s.0 rest s.2 in
    let at : Span → Option (InnerAttribute × State) = λ span. Some (record { span = span; pound = inner.pound; bang = inner.bang; opening = inner.opening; allow = inner.allow; closing = inner.closing }, rest) in
    rw (punct-complete Pound state inner.pound h.0 h.1) (rw (punct-complete Not h.0 inner.bang b.0 b.1) (rw (punct-complete OpenBracket b.0 inner.opening o.0 o.1)
    (rw (word-list-complete (codes "allow") o.0 inner.allow s.0 is.1 s.1) (rw (punct-complete CloseBracket s.0 inner.closing rest last) (ap at (sym is.0))))))

-- runs of them

pub attributes-take : (state : State) (attributes : List Attribute) (rest : State) → attributes_at state ≡ Some (attributes, rest) → IsRun (has_mark Pound) attribute_at attribute_row IsAttribute attributes state rest
unfolding attributes_at
attributes-take state attributes rest e = repeated-sound (has_mark Pound) attribute_at attribute_row IsAttribute attribute-sound state attributes rest e

pub attributes-complete : (state : State) (attributes : List Attribute) (rest : State) → AllByRecursion IsAttribute attributes → has_mark Pound rest ≡ false → Stands (in_order (map attribute_row attributes)) state rest
    → attributes_at state ≡ Some (attributes, rest)
unfolding attributes_at
attributes-complete state attributes rest good stop h =
    repeated-complete (has_mark Pound) attribute_at attribute_row IsAttribute (λ s x r good h. attribute-complete s x r good h)
    (λ s x r good h. begins-has Pound (record { span = x.pound; glued = false }) s h.0 h.1) attribute-shorter state attributes rest good stop h where
      attribute-shorter : (s : State) (x : Attribute) (r : State) → Stands (attribute_row x) s r → length r < length s
      attribute-shorter s x r h =
          let first = pound-shorter x.pound s h.0 h.1 in
          let others = stands-shrinks (punct OpenBracket x.opening ∷ (meta_row x.meta ++ punct CloseBracket x.closing ∷ [])) h.0 r h.2 in
          omega arith

pub inners-take : (state : State) (inners : List InnerAttribute) (rest : State) → inners_at state ≡ Some (inners, rest) → IsRun has_inner inner_at inner_row IsInner inners state rest
unfolding inners_at
inners-take state inners rest e = repeated-sound has_inner inner_at inner_row IsInner inner-sound state inners rest e

inner-begins : (s : State) (x : InnerAttribute) (r : State) → IsInner x → Stands (inner_row x) s r → has_inner s ≡ true
unfolding has_inner
inner-begins s x r good h =
    let m : Mark = record { span = x.pound; glued = false } in
    let read : mark_at Pound s ≡ Some (m, h.0) = mark-complete Pound s m h.0 h.1 in
    ap begins_bang read ∙ begins-has Not (record { span = x.bang; glued = false }) h.0 h.2.0 h.2.1

pub inners-complete : (state : State) (inners : List InnerAttribute) (rest : State) → AllByRecursion IsInner inners → has_inner rest ≡ false → Stands (in_order (map inner_row inners)) state rest
    → inners_at state ≡ Some (inners, rest)
unfolding inners_at
inners-complete state inners rest good stop h =
    repeated-complete has_inner inner_at inner_row IsInner (λ s x r good h. inner-complete s x r good h) inner-begins inner-shorter state inners rest good stop h where
      inner-shorter : (s : State) (x : InnerAttribute) (r : State) → Stands (inner_row x) s r → length r < length s
      inner-shorter s x r h =
          let first = pound-shorter x.pound s h.0 h.1 in
          let others = stands-shrinks (punct Not x.bang ∷ punct OpenBracket x.opening ∷ (word_list (codes "allow") x.allow ++ punct CloseBracket x.closing ∷ [])) h.0 r h.2 in
          omega arith
