-- The numbers of the ways of a shape, in order, are one after another.
use Rattle.std.proofs.Common.{◌≡◌, ℕ, zero, suc, ◌+◌, List, [], ◌∷◌, ◌++◌, length, map, refl, ap, ◌∙◌, arith, length-append}
use Rattle.std.specs.List.{range_with_len}
use Rattle.std.proofs.lemmas.List.{map-append}
use Rattle.tb_lower.specs.Ways.{Shape, End, Own, Part, Naming, number, count, brings, ways, ways_from}

-- some numbers, and some more
ranges : (start a b : ℕ) → range_with_len start a ++ range_with_len (start + a) b ≡ range_with_len start (a + b)
ranges start zero b =
    let same : start + 0 ≡ start = omega arith in
    let none : 0 + b ≡ b = omega arith in
    rw (same, none) refl
ranges start (suc a) b =
    let next : start + suc a ≡ start + 1 + a = omega arith in
    let more : suc a + b ≡ suc (a + b) = omega arith in
    rw (next, more) (ap (λ l. start ∷ l) (ranges (start + 1) a b))

map_map : (at : Naming) (place : ℕ) (list : List (List ℕ)) → map at (map (λ way. place ∷ way) list) ≡ map (λ way. at (place ∷ way)) list
map_map at place [] = refl
map_map at place (way ∷ list) = ap (λ l. at (place ∷ way) ∷ l) (map_map at place list)

numbers_from : (at : Naming) (start place : ℕ) (shape : Shape) → ((i : ℕ) (way : List ℕ) → at ((place + i) ∷ way) ≡ number start shape (i ∷ way)) → map at (ways_from place shape) ≡ range_with_len start (count shape)
numbers_from at start place End h = refl
numbers_from at start place (Own local rest) h =
    let here : place + 0 ≡ place = omega arith in
    let one : 1 + count rest ≡ suc (count rest) = omega arith in
    let first : at (place ∷ []) ≡ start = (rw here at (h 0 [])) in
    rw (one, first) (ap (λ l. start ∷ l) (numbers_from at (start + 1) (suc place) rest
    (λ i way. let next : suc place + i ≡ place + suc i = omega arith in rw next (h (suc i) way))))
numbers_from at start place (Part part rest) h =
    let here : place + 0 ≡ place = omega arith in
    let inside = numbers_from (λ way. at (place ∷ way)) start 0 part (λ i way. let same : 0 + i ≡ i = omega arith in rw same (rw here at (h 0 (i ∷ way)))) in
    let behind = numbers_from at (start + count part) (suc place) rest
    (λ i way. let next : suc place + i ≡ place + suc i = omega arith in rw next (h (suc i) way)) in
    map-append at (map (λ way. place ∷ way) (ways_from 0 part)) (ways_from (suc place) rest)
    ∙ ap (λ l. l ++ map at (ways_from (suc place) rest)) (map_map at place (ways_from 0 part) ∙ inside)
    ∙ ap (λ l. range_with_len start (count part) ++ l) behind
    ∙ ranges start (count part) (count rest)

pub numbers_are : (start : ℕ) (shape : Shape) → map (number start shape) (ways shape) ≡ range_with_len start (count shape)
numbers_are start shape = numbers_from (number start shape) start 0 shape (λ i way. ap (λ j. number start shape (j ∷ way)) (let same : 0 + i ≡ i = omega arith in same))

pub brings_are : (shape : Shape) → length (brings shape) ≡ count shape
brings_are End = refl
brings_are (Own local rest) = let more = brings_are rest in omega arith
brings_are (Part part rest) =
    let here = brings_are part in
    let more = brings_are rest in
    let both = length-append (brings part) (brings rest) in
    omega arith
