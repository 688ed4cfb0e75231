-- How one token, gap or fault takes the list of tokens along.
use Rattle.std.proofs.Common.{◌≡◌, ℕ, ◌+◌, ◌-◌, ◌<◌, ◌≤◌, false, cond, ◌==◌, inl, inr, List, [], ◌∷◌, ◌++◌, length, length-append, take, Some, None, Ok, ap, ◌∙◌, arith, Bor}
use Rattle.tb_perm.specs.declared.code.Code.{Code}
use Rattle.tb_perm.specs.declared.span.Span.{Span}
use Rattle.tb_lex.specs.declared.error.Fault.{Fault}
use Rattle.tb_lex.specs.declared.error.Fault.TheVariants as fault
use Rattle.tb_lex.specs.declared.token.Token.{Token}
use Rattle.tb_lex.specs.declared.token.TokenKind.{TokenKind}
use Rattle.tb_lex.specs.Characters.{width, is_space}
use Rattle.tb_lex.specs.Scan.{Fails, refuse, token_at, comment_at, gap_at}
use Rattle.tb_lex.specs.Texts.{span_of, Begins}
use Rattle.tb_lex.specs.Growth.{Goes, Follows, IsWithin, refused_at, BeginsFault}
use Rattle.tb_lex.proofs.Cases.{chosen}
use Rattle.tb_lex.proofs.Widths.{width-append}
use Rattle.tb_lex.proofs.Takes.{no_gap, cut}
use Rattle.tb_lex.proofs.Refuses.{Faulty, token-refuses, gap-refuses, gap-passes, pass}
use Rattle.tb_lex.proofs.Places.{token-stands}
use Rattle.tb_lex.proofs.Uniqueness.{reads-pass, reads-token, begins-shorter, passing-shorter}

abbrev span : ℕ → ℕ → Span
span lo hi = record { lo = lo; hi = hi }

-- the span of a piece at this place
span-here : (at : ℕ) (text piece rest : List ℕ) → text ≡ piece ++ rest
    → span at (at + width (take (length text - length rest) text)) ≡ span_of (at + width text) text rest
span-here at text piece rest parts =
    let whole : width text ≡ width piece + width rest = ap width parts ∙ width-append piece rest in
    let front : width (take (length text - length rest) text) ≡ width piece = ap width (cut text piece rest parts) in
    let lo : at ≡ at + width text - width text = omega arith in
    let hi : at + width (take (length text - length rest) text) ≡ at + width text - width rest = omega arith in
    ap (λ (n : ℕ). span n (at + width (take (length text - length rest) text))) lo ∙ ap (λ (n : ℕ). span (at + width text - width text) n) hi

rest-shorter : (text piece rest : List ℕ) → text ≡ piece ++ rest → length rest ≤ length text
rest-shorter text piece rest parts = omega (arith, ap length parts ∙ length-append piece rest)

pub token-shorter : (text : List ℕ) (k : TokenKind) (rest : List ℕ) → gap_at text ≡ Ok None → token_at text ≡ Ok (k, rest) → length rest ≤ length text
token-shorter text k rest gap e =
    let s = token-stands text k rest gap e in
    rest-shorter text s.0 rest s.1

pub token-begins : (at : ℕ) (text : List ℕ) (k : TokenKind) (rest : List ℕ) → gap_at text ≡ Ok None → token_at text ≡ Ok (k, rest)
    → Begins (at + width text) text (record { kind = k; span = record { lo = at; hi = at + width (take (length text - length rest) text) } }) rest
token-begins at text k rest gap e =
    let s = token-stands text k rest gap e in
    record { piece = s.0; parts = s.1; stands = s.2; span = span-here at text s.0 rest s.1 }

gap-space : (c : ℕ) (text : List ℕ) → gap_at (c ∷ text) ≡ no_gap → is_space c ≡ false
unfolding gap_at
gap-space c text e = elim (chosen (is_space c) (pass text) (cond (c == 47) (comment_at text) no_gap) no_gap e) [
  | inl k ↦ absurd cc
  | inr k ↦ k.0
]

token-faulty : (text : List ℕ) (code : Code) (rest : List ℕ) → 0 < length text → gap_at text ≡ Ok None → token_at text ≡ refuse code rest → Faulty code text rest
token-faulty [] code rest some gap e = absurd (omega arith)
token-faulty (c ∷ text) code rest some gap e = token-refuses c text code rest (gap-space c text gap) e

fault-begins : (at : ℕ) (text : List ℕ) (code : Code) (rest : Bor (List ℕ)) → Faulty code text rest.now → BeginsFault (at + width text) text (refused_at at text (fault.Refused code rest))
fault-begins at text code rest (piece, parts, is) = (piece, rest.now, parts, is, span-here at text piece rest.now parts)

faulty-within : (text : List ℕ) (code : Code) (rest : Bor (List ℕ)) → Faulty code text rest.now → IsWithin text (fault.Refused code rest)
faulty-within text code rest (piece, parts, is) = rest-shorter text piece rest.now parts

pub token-within : (text : List ℕ) (f : Fault) → 0 < length text → gap_at text ≡ Ok None → Fails f (token_at text) → IsWithin text f
token-within text (fault.Refused code rest) some gap e = faulty-within text code rest (token-faulty text code rest.now some gap e)
token-within text fault.Memory some gap e = tt

pub token-fault : (at : ℕ) (text : List ℕ) (f : Fault) → 0 < length text → gap_at text ≡ Ok None → Fails f (token_at text) → BeginsFault (at + width text) text (refused_at at text f)
token-fault at text (fault.Refused code rest) some gap e = fault-begins at text code rest (token-faulty text code rest.now some gap e)
token-fault at text fault.Memory some gap e = tt

pub gap-within : (text : List ℕ) (f : Fault) → Fails f (gap_at text) → IsWithin text f
gap-within text (fault.Refused code rest) e = faulty-within text code rest (gap-refuses text code rest.now e)
gap-within text fault.Memory e = tt

pub gap-fault : (at : ℕ) (text : List ℕ) (f : Fault) → Fails f (gap_at text) → BeginsFault (at + width text) text (refused_at at text f)
gap-fault at text (fault.Refused code rest) e = fault-begins at text code rest (gap-refuses text code rest.now e)
gap-fault at text fault.Memory e = tt

pub gap-goes : (size : ℕ) (list : List Token) (text rest : List ℕ) → gap_at text ≡ Ok (Some rest) → Goes size list text list rest
gap-goes size list text rest e start reads = reads-pass size start list text rest reads (gap-passes text rest e)

pub gap-shorter : (text rest : List ℕ) → gap_at text ≡ Ok (Some rest) → length rest < length text
gap-shorter text rest e = passing-shorter text rest (gap-passes text rest e)

pub token-goes : (size : ℕ) (list : List Token) (text : List ℕ) (t : Token) (rest : List ℕ) → Begins size text t rest → Goes size list text (list ++ t ∷ []) rest
token-goes size list text t rest b start reads = reads-token size start list text t rest reads b

pub gap-follows : (text rest : List ℕ) → gap_at text ≡ Ok (Some rest) → Follows text rest
gap-follows text rest e = let p = gap-passes text rest e in (p.0, p.1)

pub token-follows : (size : ℕ) (text : List ℕ) (t : Token) (rest : List ℕ) → Begins size text t rest → Follows text rest
token-follows size text t rest b = (b.piece, b.parts)

-- the place of what follows
pub place-follows : (at : ℕ) (text rest : List ℕ) → Follows text rest → at + width (take (length text - length rest) text) + width rest ≡ at + width text
place-follows at text rest (piece, parts) =
    let whole : width text ≡ width piece + width rest = ap width parts ∙ width-append piece rest in
    let front : width (take (length text - length rest) text) ≡ width piece = ap width (cut text piece rest parts) in
    omega arith

pub ruleset tokens = (token-shorter, token-begins, token-within, token-fault)

pub ruleset gaps = (gap-within, gap-fault, gap-goes, gap-shorter, gap-follows, token-goes, token-follows, begins-shorter)
