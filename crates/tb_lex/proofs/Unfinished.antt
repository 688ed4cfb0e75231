-- Where a literal does not end, what was read of it is its longest front.
use Rattle.std.proofs.Common.{◌≡◌, ◌⊎◌, inl, inr, ℕ, ◌+◌, ◌≤◌, List, [], ◌∷◌, ◌++◌, length, length-append, refl, ap, sym, subst, ◌∙◌, arith, append_assoc}
use Rattle.tb_lex.specs.declared.literal.Literal.{Literal}
use Rattle.tb_lex.specs.declared.literal.Literal.TheVariants.{Character, Byte, Text}
use Rattle.tb_lex.specs.declared.literal.Stage.{Stage}
use Rattle.tb_lex.specs.declared.literal.Stage.TheVariants.{Open}
use Rattle.tb_lex.specs.Stages.{content}
use Rattle.tb_lex.specs.Literals.{IsContent, IsFront, opening, closing}
use Rattle.tb_lex.proofs.Literals.{Start, Means, Meant, content-means}
use Rattle.tb_lex.proofs.Written.{through, through-content, through-front, content-shorter, content-through, completes}

pub cancel : (xs a b : List ℕ) → xs ++ a ≡ xs ++ b → a ≡ b
cancel [] a b e = e
cancel (x ∷ xs) a b e = cancel xs a b cc

-- a front of a content and its quote is all of it, or a front of the content
split_quote : (inner l : List ℕ) (x : ℕ) (more : List ℕ) → inner ++ x ∷ [] ≡ l ++ more → (l ≡ inner ++ x ∷ []) ⊎ ((others : List ℕ) × (inner ≡ l ++ others))
split_quote [] [] x more e = inr ([], refl)
split_quote [] (c ∷ []) x more e = let same : x ≡ c = cc in inl (ap (λ (n : ℕ). n ∷ []) (sym same))
split_quote [] (c ∷ d ∷ l) x more e = absurd cc
split_quote (d ∷ inner) [] x more e = inr (d ∷ inner, refl)
split_quote (d ∷ inner) (c ∷ l) x more e =
    let same : d ≡ c = cc in
    let rest : inner ++ x ∷ [] ≡ l ++ more = cc in
    elim (split_quote inner l x more rest) [
      | inl whole ↦ inl (ap (λ (n : ℕ). n ∷ l) (sym same) ∙ ap (λ (t : List ℕ). d ∷ t) whole)
      | inr part ↦ inr (part.0, ap (λ (n : ℕ). n ∷ inner) same ∙ ap (λ (t : List ℕ). c ∷ t) part.1)
    ]

-- a front is no longer than what opens the literal, or goes on behind that
split_opening : (front longer a b : List ℕ) → front ++ a ≡ longer ++ b → (length longer ≤ length front) ⊎ ((l : List ℕ) × (longer ≡ front ++ l) × (a ≡ l ++ b))
split_opening [] longer a b e = inr (longer, refl, e)
split_opening (x ∷ front) [] a b e = inl (omega arith)
split_opening (x ∷ front) (y ∷ longer) a b e =
    let same : x ≡ y = cc in
    let rest : front ++ a ≡ longer ++ b = cc in
    elim (split_opening front longer a b rest) [
      | inl short ↦ inl (omega arith)
      | inr part ↦ inr (part.0, ap (λ (n : ℕ). n ∷ longer) (sym same) ∙ ap (λ (t : List ℕ). x ∷ t) part.1, part.2)
    ]

starts : (literal : Literal) → Start literal []
starts Character = refl
starts Byte = refl
starts Text = ([], refl)

-- what was read behind the opening
pub meant : (literal : Literal) (text : List ℕ) → Meant literal [] text (content literal Open text)
meant literal text = content-means literal Open [] text (starts literal)

pub is_front : (literal : Literal) (stage : Stage) (read : List ℕ) → Means literal stage read → IsFront literal (opening literal ++ read)
is_front literal stage read m =
    let c = completes literal stage read m in
    record {
      inner = read ++ c.suffix;
      more = c.suffix ++ closing literal ∷ [];
      content = c.whole;
      whole = ap (λ (t : List ℕ). opening literal ++ t) (append_assoc read c.suffix (closing literal ∷ []))
          ∙ sym (append_assoc (opening literal) read (c.suffix ++ closing literal ∷ []));
    }

-- no whole literal stands behind the opening
abbrev pub NoWhole : Literal → List ℕ → Type 0
NoWhole literal text = (inner after : List ℕ) → text ≡ inner ++ closing literal ∷ after → IsContent literal inner → ⊥

pub is_longest : (literal : Literal) (text read rest : List ℕ) → NoWhole literal text → text ≡ read ++ rest → (content literal Open text).1 ≡ rest
    → (longer after : List ℕ) → longer ++ after ≡ (opening literal ++ read) ++ rest → IsFront literal longer → length longer ≤ length (opening literal ++ read)
is_longest literal text read rest no_whole parts at longer after same f =
    elim (split_opening (opening literal) longer (f.inner ++ closing literal ∷ []) f.more f.whole) [
      | inl short ↦ omega (arith, length-append (opening literal) read)
      | inr part ↦
          let l = part.0 in
          let regroup : opening literal ++ (l ++ after) ≡ opening literal ++ (read ++ rest) =
          sym (append_assoc (opening literal) l after) ∙ ap (λ (t : List ℕ). t ++ after) (sym part.1) ∙ same ∙ append_assoc (opening literal) read rest in
          let here : l ++ after ≡ read ++ rest = cancel (opening literal) (l ++ after) (read ++ rest) regroup in
          let long : length longer ≡ length (opening literal) + length l = ap length part.1 ∙ length-append (opening literal) l in
          elim (split_quote f.inner l (closing literal) f.more part.2) [
            | inl whole ↦
                absurd (no_whole f.inner after (parts ∙ sym here ∙ ap (λ (t : List ℕ). t ++ after) whole ∙ append_assoc f.inner (closing literal ∷ []) after) f.content)
            | inr lies ↦
                let t = content-through literal f.inner f.content in
                let lead = through-front literal Open l lies.0 t.0 (ap (through literal Open) (sym lies.1) ∙ t.1) in
                let reads : content literal Open text ≡ content literal lead.0 after =
                ap (content literal Open) (parts ∙ sym here) ∙ through-content literal Open l after lead.0 lead.1 in
                let ends : rest ≡ (content literal lead.0 after).1 = sym at ∙ ap (λ (r : Stage × List ℕ). r.1) reads in
                let short : length rest ≤ length after = subst (λ (t : List ℕ). length t ≤ length after) (sym ends) (content-shorter literal lead.0 after) in
                let total : length l + length after ≡ length read + length rest = sym (length-append l after) ∙ ap length here ∙ length-append read rest in
                omega (arith, length-append (opening literal) read)
          ]
    ]
