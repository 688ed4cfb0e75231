-- `use` items, structs, heads of functions and `extern` blocks: what is read stands there, and what stands there is read.
use Rattle.std.proofs.Common.{◌≡◌, ℕ, Bool, true, false, [], ◌∷◌, ◌++◌, map, Option, Some, None, refl, sym, ap, subst, ◌∙◌, inl, inr}
use Rattle.tb_perm.specs.declared.span.Span.{Span}
use Rattle.tb_lex.specs.declared.keyword.Keyword.TheVariants as keyword_of
use Rattle.tb_lex.specs.declared.punctuation.Punctuation.TheVariants.{OpenBrace, CloseBrace, Semicolon, Comma, Colon, PathSep, Lt, Gt}
use Rattle.tb_lex.specs.declared.token.TokenKind.TheVariants as kind
use Rattle.tb_ast.specs.declared.leaf.Mark.{Mark}
use Rattle.tb_ast.specs.declared.item.Use.{Use}
use Rattle.tb_ast.specs.declared.item.UseGroup.{UseGroup}
use Rattle.tb_ast.specs.declared.item.Struct.{Struct}
use Rattle.tb_ast.specs.declared.item.Lifetimes.{Lifetimes}
use Rattle.tb_ast.specs.declared.item.Field.{Field}
use Rattle.tb_ast.specs.Pieces.{punct, separated, named, path_pieces}
use Rattle.tb_ast.specs.Files.{group_row, use_row, lifetime_row, lifetimes_row, member_row, struct_row}
use Rattle.tb_syntax.specs.State.{State, Begins, Stands}
use Rattle.tb_syntax.specs.Marks.{punct_at, has_mark}
use Rattle.tb_syntax.specs.Leaves.{keyword_at, name_at, lifetime_at}
use Rattle.tb_syntax.specs.Lists.{listed_at}
use Rattle.tb_syntax.specs.Paths.{goes_on, path_at}
use Rattle.tb_syntax.specs.Types.{type_at}
use Rattle.tb_syntax.specs.Written.{type_ends}
use Rattle.tb_syntax.specs.Items.{group_at, use_span, use_at, lifetimes_at, field_at, struct_at, IsGroup, IsUse, AreLifetimes, IsField, IsStruct}
use Rattle.tb_syntax.proofs.Options.{bind_some, chosen, some_is}
use Rattle.tb_syntax.proofs.Chains.{stands-then, stands-split, stands-one, one-stands}
use Rattle.tb_syntax.proofs.Marks.{punct-sound, punct-complete, other-mark}
use Rattle.tb_syntax.proofs.Tokens.{token-no-mark, keyword-sound, keyword-complete, name-sound, name-complete}
use Rattle.tb_syntax.proofs.Named.{goes-has, path-sound, path-complete, separator-no-name}
use Rattle.tb_syntax.proofs.Listed.{begins-has, listed-sound, listed-complete}
use Rattle.tb_syntax.proofs.Fronts.{mark-ends}
use Rattle.tb_syntax.proofs.Typed.{type-sound, type-complete, type-may-end}
use Rattle.tb_syntax.proofs.Runs.{idents-take, idents-complete, lifetimes-take, lifetimes-complete}

abbrev plain : Span → Mark
plain span = record { span = span; glued = false }

-- `use` items.

abbrev TakenGroup : State → Option UseGroup × State → Type 0
TakenGroup state y = Stands (group_row y.0) state y.1 × IsGroup y.0

group-sound : (state : State) (y : Option UseGroup × State) → group_at state ≡ Some y → TakenGroup state y
unfolding group_at
group-sound state y e =
    elim (chosen (has_mark PathSep state) _ _ y e) [
      | inl k ↦
          let separator = bind_some (punct_at PathSep state) _ y k.1 in
          let opening = bind_some (punct_at OpenBrace separator.0.1) _ y separator.2 in
          let list = bind_some (listed_at name_at CloseBrace opening.0.1) _ y opening.2 in
          let closing = bind_some (punct_at CloseBrace list.0.1) _ y list.2 in
          let l = idents-take CloseBrace opening.0.1 list.0 list.1 in
          subst (TakenGroup state) (some_is (Some (record { separator = separator.0.0; opening = opening.0.0; names = list.0.0.0; commas = list.0.0.1; closing = closing.0.0 }), closing.0.1) y closing.2) (
            (
              separator.0.1,
              punct-sound PathSep state separator.0.0 separator.0.1 separator.1,
              (
                opening.0.1,
                punct-sound OpenBrace separator.0.1 opening.0.0 opening.0.1 opening.1,
                stands-then (named Comma list.0.0.0 list.0.0.1) (punct CloseBrace closing.0.0 ∷ []) opening.0.1 list.0.1 closing.0.1 l.0
                    (one-stands (punct CloseBrace closing.0.0) list.0.1 closing.0.1 (punct-sound CloseBrace list.0.1 closing.0.0 closing.0.1 closing.1)),
              ),
            ),
            l.1,
          )
      | inr k ↦ subst (TakenGroup state) (some_is (None, state) y k.1) (refl, tt)
    ]

group-complete : (state : State) (group : Option UseGroup) (rest : State) → IsGroup group → has_mark PathSep rest ≡ false → Stands (group_row group) state rest → group_at state ≡ Some (group, rest)
unfolding group_at
group-complete state None rest is stop h =
    let same : state ≡ rest = h in
    let at : State → Option (Option UseGroup × State) = λ s. Some (None, s) in
    rw (ap (has_mark PathSep) same ∙ stop) (ap at same)
group-complete state (Some group) rest is stop h =
    let o = h.2 in
    let s = stands-split (named Comma group.names group.commas) (punct CloseBrace group.closing ∷ []) o.0 rest o.2 in
    let last = stands-one (punct CloseBrace group.closing) s.0 rest s.2 in
    rw (begins-has PathSep (plain group.separator) state h.0 h.1) (rw (punct-complete PathSep state group.separator h.0 h.1) (rw (punct-complete OpenBrace h.0 group.opening o.0 o.1)
    (rw (idents-complete CloseBrace refl o.0 group.names group.commas (plain group.closing) s.0 rest is s.1 last) (rw (punct-complete CloseBrace s.0 group.closing rest last) refl))))

pub use-sound : (state : State) (item : Use) (rest : State) → use_at state ≡ Some (item, rest) → Stands (use_row item) state rest × IsUse item
unfolding use_at
use-sound state item rest e =
    let w = bind_some (keyword_at keyword_of.Use state) _ (item, rest) e in
    let path = bind_some (path_at w.0.1) _ (item, rest) w.2 in
    let group = bind_some (group_at path.0.1) _ (item, rest) path.2 in
    let semicolon = bind_some (punct_at Semicolon group.0.1) _ (item, rest) group.2 in
    let p = path-sound w.0.1 path.0.0 path.0.1 path.1 in
    let g = group-sound path.0.1 group.0 group.1 in
    let is : Use × State → Type 0 = λ y. Stands (use_row y.0) state y.1 × IsUse y.0 in
    subst is (some_is (record { use_keyword = w.0.0; span = use_span path.0.0 group.0.0; path = path.0.0; group = group.0.0; semicolon = semicolon.0.0 }, semicolon.0.1) (item, rest) semicolon.2) (
      (
        w.0.1,
        keyword-sound keyword_of.Use state w.0.0 w.0.1 w.1,
        stands-then (path_pieces path.0.0) (group_row group.0.0 ++ punct Semicolon semicolon.0.0 ∷ []) w.0.1 path.0.1 semicolon.0.1 p.0
            (stands-then (group_row group.0.0) (punct Semicolon semicolon.0.0 ∷ []) path.0.1 group.0.1 semicolon.0.1 g.0
            (one-stands (punct Semicolon semicolon.0.0) group.0.1 semicolon.0.1 (punct-sound Semicolon group.0.1 semicolon.0.0 semicolon.0.1 semicolon.1))),
      ),
      (refl, p.1, g.1),
    )

-- a path of a `use` ends where no name follows `::`
group-ends-path : (group : Option UseGroup) (semicolon : Span) (state rest : State) → Stands (group_row group ++ punct Semicolon semicolon ∷ []) state rest → goes_on PathSep state ≡ false
group-ends-path None semicolon state rest h = goes-has PathSep state (other-mark Semicolon PathSep (plain semicolon) state h.0 refl h.1)
group-ends-path (Some group) semicolon state rest h = separator-no-name group.separator group.opening state h.0 h.2.0 h.1 h.2.1

pub use-complete : (state : State) (item : Use) (rest : State) → IsUse item → Stands (use_row item) state rest → use_at state ≡ Some (item, rest)
unfolding use_at
use-complete state item rest is h =
    let p = stands-split (path_pieces item.path) (group_row item.group ++ punct Semicolon item.semicolon ∷ []) h.0 rest h.2 in
    let g = stands-split (group_row item.group) (punct Semicolon item.semicolon ∷ []) p.0 rest p.2 in
    let last = stands-one (punct Semicolon item.semicolon) g.0 rest g.2 in
    let stop = group-ends-path item.group item.semicolon p.0 rest p.2 in
    let at : Span → Option (Use × State) = λ span. Some (record { use_keyword = item.use_keyword; span = span; path = item.path; group = item.group; semicolon = item.semicolon }, rest) in
    rw (keyword-complete keyword_of.Use state item.use_keyword h.0 h.1) (rw (path-complete h.0 item.path p.0 is.1 stop p.1)
    (rw (group-complete p.0 item.group g.0 is.2 (other-mark Semicolon PathSep (plain item.semicolon) g.0 rest refl last) g.1) (rw (punct-complete Semicolon g.0 item.semicolon rest last) (ap at (sym is.0)))))

-- Structs.

abbrev TakenLifetimes : State → Option Lifetimes × State → Type 0
TakenLifetimes state y = Stands (lifetimes_row y.0) state y.1 × AreLifetimes y.0

listed-lifetimes-take : (state : State) (y : Option Lifetimes × State) → lifetimes_at state ≡ Some y → TakenLifetimes state y
unfolding lifetimes_at
listed-lifetimes-take state y e =
    elim (chosen (has_mark Lt state) _ _ y e) [
      | inl k ↦
          let opening = bind_some (punct_at Lt state) _ y k.1 in
          let list = bind_some (listed_at lifetime_at Gt opening.0.1) _ y opening.2 in
          let closing = bind_some (punct_at Gt list.0.1) _ y list.2 in
          let l = lifetimes-take Gt opening.0.1 list.0 list.1 in
          subst (TakenLifetimes state) (some_is (Some (record { opening = opening.0.0; lifetimes = list.0.0.0; commas = list.0.0.1; closing = closing.0.0 }), closing.0.1) y closing.2) (
            (
              opening.0.1,
              punct-sound Lt state opening.0.0 opening.0.1 opening.1,
              stands-then (separated Comma (map lifetime_row list.0.0.0) list.0.0.1) (punct Gt closing.0.0 ∷ []) opening.0.1 list.0.1 closing.0.1 l.0
                  (one-stands (punct Gt closing.0.0) list.0.1 closing.0.1 (punct-sound Gt list.0.1 closing.0.0 closing.0.1 closing.1)),
            ),
            l.1,
          )
      | inr k ↦ subst (TakenLifetimes state) (some_is (None, state) y k.1) (refl, tt)
    ]

listed-lifetimes-complete : (state : State) (list : Option Lifetimes) (rest : State) → AreLifetimes list → has_mark Lt rest ≡ false → Stands (lifetimes_row list) state rest → lifetimes_at state ≡ Some (list, rest)
unfolding lifetimes_at
listed-lifetimes-complete state None rest is stop h =
    let same : state ≡ rest = h in
    let at : State → Option (Option Lifetimes × State) = λ s. Some (None, s) in
    rw (ap (has_mark Lt) same ∙ stop) (ap at same)
listed-lifetimes-complete state (Some list) rest is stop h =
    let s = stands-split (separated Comma (map lifetime_row list.lifetimes) list.commas) (punct Gt list.closing ∷ []) h.0 rest h.2 in
    let last = stands-one (punct Gt list.closing) s.0 rest s.2 in
    rw (begins-has Lt (plain list.opening) state h.0 h.1) (rw (punct-complete Lt state list.opening h.0 h.1)
    (rw (lifetimes-complete Gt refl h.0 list.lifetimes list.commas (plain list.closing) s.0 rest is s.1 last) (rw (punct-complete Gt s.0 list.closing rest last) refl)))

module _ (depth : ℕ) where
  field-sound : (state : State) (field : Field) (rest : State) → field_at depth state ≡ Some (field, rest) → Stands (member_row field) state rest × IsField depth field
  unfolding field_at
  field-sound state field rest e =
      let name = bind_some (name_at state) _ (field, rest) e in
      let colon = bind_some (punct_at Colon name.0.1) _ (field, rest) name.2 in
      let ty = bind_some (type_at depth colon.0.1) _ (field, rest) colon.2 in
      let t = type-sound depth colon.0.1 ty.0.0 ty.0.1 ty.1 in
      let is : Field × State → Type 0 = λ y. Stands (member_row y.0) state y.1 × IsField depth y.0 in
      subst is (some_is (record { name = name.0.0; colon = colon.0.0; ty = ty.0.0 }, ty.0.1) (field, rest) ty.2)
      ((name.0.1, name-sound state name.0.0 name.0.1 name.1, (colon.0.1, punct-sound Colon name.0.1 colon.0.0 colon.0.1 colon.1, t.stands)), t.is)

  abbrev field_free : Field → State → Bool
  field_free field state = type_ends field.ty state

  field-complete : (state : State) (field : Field) (rest : State) → IsField depth field → field_free field rest ≡ true → Stands (member_row field) state rest → field_at depth state ≡ Some (field, rest)
  unfolding field_at
  field-complete state field rest is ends h =
      rw (name-complete state field.name h.0 h.1) (rw (punct-complete Colon h.0 field.colon h.2.0 h.2.1) (rw (type-complete depth field.ty h.2.0 rest is ends h.2.2) refl))

  pub struct-sound : (state : State) (item : Struct) (rest : State) → struct_at depth state ≡ Some (item, rest) → Stands (struct_row item) state rest × IsStruct depth item
  unfolding struct_at
  struct-sound state item rest e =
      let w = bind_some (keyword_at keyword_of.Struct state) _ (item, rest) e in
      let name = bind_some (name_at w.0.1) _ (item, rest) w.2 in
      let lifetimes = bind_some (lifetimes_at name.0.1) _ (item, rest) name.2 in
      let opening = bind_some (punct_at OpenBrace lifetimes.0.1) _ (item, rest) lifetimes.2 in
      let list = bind_some (listed_at (field_at depth) CloseBrace opening.0.1) _ (item, rest) opening.2 in
      let closing = bind_some (punct_at CloseBrace list.0.1) _ (item, rest) list.2 in
      let ls = listed-lifetimes-take name.0.1 lifetimes.0 lifetimes.1 in
      let l = listed-sound (field_at depth) CloseBrace member_row (IsField depth) field-sound opening.0.1 list.0.0.0 list.0.0.1 list.0.1 list.1 in
      let is : Struct × State → Type 0 = λ y. Stands (struct_row y.0) state y.1 × IsStruct depth y.0 in
      subst is (some_is (record { struct_keyword = w.0.0; name = name.0.0; lifetimes = lifetimes.0.0; opening = opening.0.0; fields = list.0.0.0; commas = list.0.0.1; closing = closing.0.0 }, closing.0.1) (item, rest) closing.2) (
        (
          w.0.1,
          keyword-sound keyword_of.Struct state w.0.0 w.0.1 w.1,
          (
            name.0.1,
            name-sound w.0.1 name.0.0 name.0.1 name.1,
            stands-then (lifetimes_row lifetimes.0.0) (punct OpenBrace opening.0.0 ∷ (separated Comma (map member_row list.0.0.0) list.0.0.1 ++ punct CloseBrace closing.0.0 ∷ [])) name.0.1 lifetimes.0.1 closing.0.1 ls.0 (
              opening.0.1,
              punct-sound OpenBrace lifetimes.0.1 opening.0.0 opening.0.1 opening.1,
              stands-then (separated Comma (map member_row list.0.0.0) list.0.0.1) (punct CloseBrace closing.0.0 ∷ []) opening.0.1 list.0.1 closing.0.1 l.0
                  (one-stands (punct CloseBrace closing.0.0) list.0.1 closing.0.1 (punct-sound CloseBrace list.0.1 closing.0.0 closing.0.1 closing.1)),
            ),
          ),
        ),
        (ls.1, l.2, l.1),
      )

  pub struct-complete : (state : State) (item : Struct) (rest : State) → IsStruct depth item → Stands (struct_row item) state rest → struct_at depth state ≡ Some (item, rest)
  unfolding struct_at
  struct-complete state item rest is h =
      let n = h.2 in
      let ls = stands-split (lifetimes_row item.lifetimes) (punct OpenBrace item.opening ∷ (separated Comma (map member_row item.fields) item.commas ++ punct CloseBrace item.closing ∷ [])) n.0 rest n.2 in
      let o = ls.2 in
      let opens : Begins (punct OpenBrace item.opening) ls.0 o.0 = o.1 in
      let s = stands-split (separated Comma (map member_row item.fields) item.commas) (punct CloseBrace item.closing ∷ []) o.0 rest o.2 in
      let last = stands-one (punct CloseBrace item.closing) s.0 rest s.2 in
      let m = plain item.closing in
      let list = listed-complete (field_at depth) CloseBrace member_row (IsField depth) field_free (λ s x r good e h. field-complete s x r good e h)
      (λ s x r good h. token-no-mark (kind.Name x.name.name) CloseBrace x.name.span s h.0 refl h.1)
      (λ x good c s r h. type-may-end depth x.ty s good (mark-ends Comma (plain c) s r refl refl h))
      o.0 item.fields item.commas s.0 (λ x good. type-may-end depth x.ty s.0 good (mark-ends CloseBrace m s.0 rest refl refl last))
      (begins-has CloseBrace m s.0 rest last) (other-mark CloseBrace Comma m s.0 rest refl last) is.2 is.1 s.1 in
      rw (keyword-complete keyword_of.Struct state item.struct_keyword h.0 h.1) (rw (name-complete h.0 item.name n.0 n.1)
      (rw (listed-lifetimes-complete n.0 item.lifetimes ls.0 is.0 (other-mark OpenBrace Lt (plain item.opening) ls.0 o.0 refl opens) ls.1)
      (rw (punct-complete OpenBrace ls.0 item.opening o.0 opens) (rw list (rw (punct-complete CloseBrace s.0 item.closing rest last) refl)))))
