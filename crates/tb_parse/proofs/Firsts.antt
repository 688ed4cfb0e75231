-- What an item begins with.
use Rattle.std.proofs.Common.{◌≡◌, ◌<◌, Bool, true, false, ◌||◌, List, ◌∷◌, ◌++◌, length, Option, Some, None, refl, ap, ◌∙◌, arith}
use Rattle.tb_perm.specs.declared.span.Span.{Span}
use Rattle.tb_lex.specs.declared.keyword.Keyword.{Keyword}
use Rattle.tb_lex.specs.declared.keyword.Keyword.TheVariants as keyword_of
use Rattle.tb_lex.specs.contracts.keyword.KeywordPartialEq.TheImpl as keyword_law
use Rattle.tb_lex.specs.declared.punctuation.Punctuation.TheVariants.{Pound}
use Rattle.tb_lex.specs.declared.token.TokenKind.TheVariants as kind
use Rattle.tb_ast.specs.declared.piece.Piece.{Piece}
use Rattle.tb_ast.specs.Pieces.{keyword, optional_keyword}
use Rattle.tb_syntax.specs.State.{State, Begins, Stands}
use Rattle.tb_syntax.specs.Marks.{has_mark}
use Rattle.tb_syntax.specs.Leaves.{has_keyword, keyword_at}
use Rattle.tb_syntax.proofs.Chains.{stands-shrinks}
use Rattle.tb_syntax.proofs.Tokens.{token-complete, token-no-mark, token-shorter, keyword-complete}
use Rattle.tb_parse.specs.Files.{is_extern, begins_extern}

abbrev pub same_word : Keyword → Keyword → Bool
same_word found wanted = (keyword_law.ghosts).eq found wanted

-- which keywords come next where one stands
pub keyword-has : (word wanted : Keyword) (span : Span) (state rest : State) → Begins (keyword word span) state rest → has_keyword wanted state ≡ same_word word wanted
unfolding has_keyword
keyword-has word wanted span state rest h = rw (token-complete (kind.Keyword word) span state rest refl h) refl

pub keyword-missing : (word wanted : Keyword) (span : Span) (state rest : State) → Begins (keyword word span) state rest → same_word word wanted ≡ false → keyword_at wanted state ≡ None
unfolding keyword_at
keyword-missing word wanted span state rest h e = rw (token-complete (kind.Keyword word) span state rest refl h) (rw e refl)

-- a keyword that may stand before another
module _ (word : Keyword) (others : List Piece) (span : Span) where
  abbrev pub front : Option Span → List Piece
  front first = optional_keyword keyword_of.Unsafe first ++ (keyword word span ∷ others)

  pub front-no-pound : (first : Option Span) (state rest : State) → Stands (front first) state rest → has_mark Pound state ≡ false
  front-no-pound None state rest h = token-no-mark (kind.Keyword word) Pound span state h.0 refl h.1
  front-no-pound (Some first) state rest h = token-no-mark (kind.Keyword keyword_of.Unsafe) Pound first state h.0 refl h.1

  pub front-shorter : (first : Option Span) (state rest : State) → Stands (front first) state rest → length rest < length state
  front-shorter None state rest h =
      let one = token-shorter (kind.Keyword word) span state h.0 refl h.1 in
      let more = stands-shrinks others h.0 rest h.2 in
      omega arith
  front-shorter (Some first) state rest h =
      let one = token-shorter (kind.Keyword keyword_of.Unsafe) first state h.0 refl h.1 in
      let more = stands-shrinks (keyword word span ∷ others) h.0 rest h.2 in
      omega arith

  pub front-no-word : (first : Option Span) (wanted : Keyword) (state rest : State) → Stands (front first) state rest → same_word word wanted ≡ false → same_word keyword_of.Unsafe wanted ≡ false
      → has_keyword wanted state ≡ false
  front-no-word None wanted state rest h e q = keyword-has word wanted span state h.0 h.1 ∙ e
  front-no-word (Some first) wanted state rest h e q = keyword-has keyword_of.Unsafe wanted first state h.0 h.1 ∙ q

or-with : (a b x y : Bool) → a ≡ x → b ≡ y → (a || b) ≡ (x || y)
or-with a b x y p q = rw (p, q) refl

extern-unsafe : (word : Keyword) (span first : Span) (state middle after : State) → Begins (keyword keyword_of.Unsafe first) state middle → Begins (keyword word span) middle after
    → is_extern (keyword_at keyword_of.Unsafe state) ≡ same_word word keyword_of.Extern
extern-unsafe word span first state middle after a b =
    ap is_extern (keyword-complete keyword_of.Unsafe state first middle a) ∙ keyword-has word keyword_of.Extern span middle after b

extern-alone : (word : Keyword) (span : Span) (state after : State) → Begins (keyword word span) state after → same_word word keyword_of.Unsafe ≡ false
    → is_extern (keyword_at keyword_of.Unsafe state) ≡ false
extern-alone word span state after h e = ap is_extern (keyword-missing word keyword_of.Unsafe span state after h e)

-- `extern` begins a block of foreign functions, and `fn` does not
pub begins-extern : (others : List Piece) (span : Span) (first : Option Span) (state rest : State) → Stands (front keyword_of.Extern others span first) state rest → begins_extern state ≡ true
unfolding begins_extern
begins-extern others span None state rest h =
    or-with (has_keyword keyword_of.Extern state) (is_extern (keyword_at keyword_of.Unsafe state)) true false
    (keyword-has keyword_of.Extern keyword_of.Extern span state h.0 h.1) (extern-alone keyword_of.Extern span state h.0 h.1 refl)
begins-extern others span (Some first) state rest h =
    or-with (has_keyword keyword_of.Extern state) (is_extern (keyword_at keyword_of.Unsafe state)) false true
    (keyword-has keyword_of.Unsafe keyword_of.Extern first state h.0 h.1) (extern-unsafe keyword_of.Extern span first state h.0 h.2.0 h.1 h.2.1)

pub begins-no-extern : (others : List Piece) (span : Span) (first : Option Span) (state rest : State) → Stands (front keyword_of.Fn others span first) state rest → begins_extern state ≡ false
unfolding begins_extern
begins-no-extern others span None state rest h =
    or-with (has_keyword keyword_of.Extern state) (is_extern (keyword_at keyword_of.Unsafe state)) false false
    (keyword-has keyword_of.Fn keyword_of.Extern span state h.0 h.1) (extern-alone keyword_of.Fn span state h.0 h.1 refl)
begins-no-extern others span (Some first) state rest h =
    or-with (has_keyword keyword_of.Extern state) (is_extern (keyword_at keyword_of.Unsafe state)) false false
    (keyword-has keyword_of.Unsafe keyword_of.Extern first state h.0 h.1) (extern-unsafe keyword_of.Fn span first state h.0 h.2.0 h.1 h.2.1)
