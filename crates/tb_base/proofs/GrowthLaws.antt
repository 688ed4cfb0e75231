-- How what an object tells grows over several calls. A caller with a loop over an object names `growth_laws` once.
use Rattle.std.proofs.Common.{◌≡◌, ◌≤◌, ◌+◌, ℕ, Option, Some, None, List, [], ◌++◌, length, take, drop, refl, sym, ap, ◌∙◌, subst, arith, append_assoc, append-nil, length-append}
use Rattle.std.proofs.lemmas.List.{take-append-le}
use Rattle.std.proofs.Math.Seq.{take-add, take-append-add, take-length}
use Rattle.tb_base.specs.Growth.{Grew, GrewByPrefix, Stays}

-- what stays grew by nothing
pub Grew-stays : (a b : Option (List ℕ)) → Stays a b → Grew a b []
Grew-stays None b s = tt
Grew-stays (Some a) None s = absurd s
Grew-stays (Some a) (Some b) s = s ∙ sym (append-nil a)

pub Stays-refl : (a : Option (List ℕ)) → Stays a a
Stays-refl None = tt
Stays-refl (Some a) = refl

-- at first nothing has grown
pub Grew-start : (a : Option (List ℕ)) → Grew a a []
Grew-start a = Grew-stays a a (Stays-refl a)

-- one piece, and then another
pub Grew-then : (a b c : Option (List ℕ)) (x y : List ℕ) → Grew a b x → Grew b c y → Grew a c (x ++ y)
Grew-then None b c x y p q = tt
Grew-then (Some a) None c x y p q = absurd p
Grew-then (Some a) (Some b) None x y p q = absurd q
Grew-then (Some a) (Some b) (Some c) x y p q = q ∙ ap (λ z. z ++ y) p ∙ append_assoc a x y

-- a piece, and then a call that leaves all as it is
pub Grew-then_stays : (a b c : Option (List ℕ)) (x : List ℕ) → Grew a b x → Stays b c → Grew a c x
Grew-then_stays a b c x p s = subst (λ z. Grew a c z) (append-nil x) (Grew-then a b c x [] p (Grew-stays b c s))

-- one more put of a loop over a piece: the front so far, and then a front of the rest
pub Grew-more : (a b c : Option (List ℕ)) (piece : List ℕ) (done count : ℕ) → Grew a b (take done piece) → Grew b c (take count (drop done piece)) → Grew a c (take (done + count) piece)
Grew-more a b c piece done count p q = subst (λ z. Grew a c z) (sym (take-add done count piece)) (Grew-then a b c (take done piece) (take count (drop done piece)) p q)

-- the loop's end
pub Grew-all : (a b : Option (List ℕ)) (piece : List ℕ) (done : ℕ) → Grew a b (take done piece) → done ≡ length piece → Grew a b piece
Grew-all a b piece done p e = subst (λ z. Grew a b z) (ap (λ n. take n piece) e ∙ take-length piece) p

-- the whole is a prefix, and so is nothing
pub GrewByPrefix-whole : (a b : Option (List ℕ)) (x : List ℕ) → Grew a b x → GrewByPrefix a b x
GrewByPrefix-whole a b x p = let bound : length x ≤ length x = omega arith in (length x, bound, subst (λ z. Grew a b z) (sym (take-length x)) p)

pub GrewByPrefix-stays : (a b : Option (List ℕ)) (x : List ℕ) → Stays a b → GrewByPrefix a b x
GrewByPrefix-stays a b x s = let bound : 0 ≤ length x = omega arith in (0, bound, Grew-stays a b s)

-- a loop that a fault ends
pub GrewByPrefix-cut : (a b c : Option (List ℕ)) (piece : List ℕ) (done : ℕ) → Grew a b (take done piece) → Stays b c → done ≤ length piece → GrewByPrefix a c piece
GrewByPrefix-cut a b c piece done p s h = (done, h, Grew-then_stays a b c (take done piece) p s)

-- a piece, and then a prefix of what follows it
pub GrewByPrefix-after : (a b c : Option (List ℕ)) (x y : List ℕ) → Grew a b x → GrewByPrefix b c y → GrewByPrefix a c (x ++ y)
GrewByPrefix-after a b c x y p q =
    let bound : length x + q.0 ≤ length (x ++ y) = rw length-append (omega (arith, q.1)) in
    (length x + q.0, bound, subst (λ z. Grew a c z) (sym (take-append-add x y q.0)) (Grew-then a b c x (take q.0 y) p q.2))

-- a prefix of a front
pub GrewByPrefix-front : (a b : Option (List ℕ)) (x y : List ℕ) → GrewByPrefix a b x → GrewByPrefix a b (x ++ y)
GrewByPrefix-front a b x y q =
    let bound : q.0 ≤ length (x ++ y) = rw length-append (omega (arith, q.1)) in
    (q.0, bound, subst (λ z. Grew a b z) (sym (take-append-le q.0 x y q.1)) q.2)

pub ruleset growth_laws = (Stays-refl, Grew-start, Grew-then, Grew-then_stays, Grew-more, Grew-all, GrewByPrefix-whole, GrewByPrefix-stays, GrewByPrefix-cut, GrewByPrefix-after, GrewByPrefix-front)
