-- The moves of one row, and the search of the rows.
use Rattle.std.proofs.Common.{◌≡◌, ◌∙◌, ℕ, suc, zero, ◌+◌, ◌-◌, ◌<◌, Bool, true, false, cond, List, [], ◌∷◌, ◌++◌, length, take, drop, set, refl, ap, sym, subst, arith, Option, Some, None, find, slice_index_or, map, add-zero, zero-add, add-one}
use Rattle.std.specs.List.{AllByRecursion, range_with_len}
use Rattle.std.proofs.lemmas.List.{append_assoc, drop_more, take_more_set, length-set, drop-set-lt}
use Rattle.tb_perm.specs.declared.perm.State.{State}
use Rattle.tb_perm.specs.declared.perm.Kind.{Kind}
use Rattle.tb_perm.specs.declared.perm.Rel.{Rel}
use Rattle.tb_perm.specs.Event.{moved_state, moved_states}
use Rattle.tb_perm.specs.Table.{is_guarded}
use Rattle.tb_plain.specs.declared.row.PlainRow.{PlainRow}
use Rattle.tb_plain.specs.declared.sweep.Sweep.{Sweep}
use Rattle.tb_plain.specs.Sweep.{contains, met, rel_in, swept}

-- the states so far are moved, and the others are as they were
pub record MovedBelow (meets : ℕ → Option Kind) (g : Bool) (rel : Rel) (old states : List State) (at : ℕ) : Type 0 where
  pub moved : take at states ++ moved_states meets g rel at (drop at old) ≡ moved_states meets g rel 0 old
  pub rest : drop at states ≡ drop at old
  pub len : length states ≡ length old

pub MovedBelow-more : (meets : ℕ → Option Kind) (g : Bool) (rel : Rel) (old states : List State) (at : ℕ) (state : State) → at < length states → state ≡ slice_index_or states at state → MovedBelow meets g rel old states at → MovedBelow meets g rel old (set states at (moved_state (meets at) g rel state)) (at + 1)
MovedBelow-more meets g rel old states at state within read below =
    let now = moved_state (meets at) g rel state in
    let head : drop at states ≡ state ∷ drop (at + 1) states = drop_more states at state within ∙ ap (λ s. s ∷ drop (at + 1) states) (sym read) in
    let other : drop at old ≡ slice_index_or old at state ∷ drop (at + 1) old = drop_more old at state (omega (arith, below.len)) in
    let both : state ∷ drop (at + 1) states ≡ slice_index_or old at state ∷ drop (at + 1) old = sym head ∙ below.rest ∙ other in
    let tails : drop (at + 1) states ≡ drop (at + 1) old = cc in
    let whole : drop at old ≡ state ∷ drop (at + 1) old = sym below.rest ∙ head ∙ ap (λ xs. state ∷ xs) tails in
    record {
      moved = ap (λ xs. xs ++ moved_states meets g rel (at + 1) (drop (at + 1) old)) (take_more_set states at now within) ∙ append_assoc (take at states) (now ∷ []) (moved_states meets g rel (at + 1) (drop (at + 1) old)) ∙ ap (λ xs. take at states ++ moved_states meets g rel at xs) (sym whole) ∙ below.moved;
      rest = drop-set-lt (at + 1) states at now (omega arith) ∙ tails;
      len = length-set states at now ∙ below.len;
    }

-- where nothing is met nothing moves
pub moved_none : (meets : ℕ → Option Kind) (g : Bool) (rel : Rel) (byte : ℕ) (states : List State) → ((b : ℕ) → meets b ≡ None) → moved_states meets g rel byte states ≡ states
moved_none meets g rel byte [] none = refl
moved_none meets g rel byte (s ∷ states) none =
    ap (λ k. moved_state k g rel s ∷ moved_states meets g rel (byte + 1) states) (none byte) ∙ ap (λ xs. s ∷ xs) (moved_none meets g rel (byte + 1) states none)

-- what holds of all rows holds of the one that is found
pub find_All : (P : PlainRow → Type 0) (p : PlainRow → Bool) (rows : List PlainRow) (row : PlainRow) → AllByRecursion P rows → find p rows ≡ Some row → P row
find_All P p [] row all is = cc
find_All P p (r ∷ rows) row all is = at (find_All P p rows row all.1) (p r) is
  where
    at : (find p rows ≡ Some row → P row) → (b : Bool) → cond b (Some r) (find p rows) ≡ Some row → P row
    at later true is = let one : r ≡ row = cc in subst P one all.0
    at later false is = later is

-- the bytes from one on
pub range_more : (byte size : ℕ) → byte < size → range_with_len byte (size - byte) ≡ byte ∷ range_with_len (byte + 1) (size - (byte + 1))
range_more byte size within = ap (range_with_len byte) length_is
  where
    length_is : size - byte ≡ suc (size - (byte + 1))
    length_is = omega arith

-- a hidden row stays
pub hidden_stays : (sweep : Sweep) (row : PlainRow) → contains sweep.hidden row.tag.0 ≡ true → row ≡ swept sweep row
hidden_stays sweep row is = ap (λ states. record row { states = states }) (sym (moved_none (met sweep row.tag.0) (is_guarded row.guard) (rel_in sweep row.tag.0) 0 row.states (λ b. ap (λ h. cond h None (slice_index_or sweep.kinds b None)) is)))

-- the search goes on behind a byte that does not pass
pub find_range_more : (q : ℕ → Bool) (byte size : ℕ) → byte < size → q byte ≡ false → find q (range_with_len (byte + 1) (size - (byte + 1))) ≡ find q (range_with_len byte (size - byte))
find_range_more q byte size within fails =
    sym (ap (find q) (range_more byte size within) ∙ ap (λ b. cond b (Some byte) (find q (range_with_len (byte + 1) (size - (byte + 1))))) fails)

-- one more byte
range_more_from : {X : Type 0} (f : ℕ → X) (from n : ℕ) → map f (range_with_len from (suc n)) ≡ map f (range_with_len from n) ++ f (from + n) ∷ []
range_more_from f from zero = ap (λ k. f k ∷ []) (sym (add-zero from))
range_more_from f from (suc n) =
    ap (λ xs. f from ∷ xs) (range_more_from f (from + 1) n ∙ ap (λ k. map f (range_with_len (from + 1) n) ++ f k ∷ []) (shift from n))
  where
    shift : (a b : ℕ) → a + 1 + b ≡ a + suc b
    shift a b = omega arith

pub map_range_more : {X : Type 0} (f : ℕ → X) (n : ℕ) → map f (range_with_len 0 (n + 1)) ≡ map f (range_with_len 0 n) ++ f n ∷ []
map_range_more f n = rw add-one (range_more_from f 0 n ∙ ap (λ k. map f (range_with_len 0 n) ++ f k ∷ []) (zero-add n))

-- the value at a byte
pub range_at : {X : Type 0} (f : ℕ → X) (from n byte : ℕ) (d : X) → byte < n → slice_index_or (map f (range_with_len from n)) byte d ≡ f (from + byte)
range_at f from zero byte d within = absurd (omega arith)
range_at f from (suc n) zero d within = ap f (sym (add-zero from))
range_at f from (suc n) (suc byte) d within = range_at f (from + 1) n byte d (omega arith) ∙ ap f (shift from byte)
  where
    shift : (a b : ℕ) → a + 1 + b ≡ a + suc b
    shift a b = omega arith

pub map_at : {X Y : Type 0} (f : X → Y) (xs : List X) (i : ℕ) (x : X) (y : Y) → i < length xs → slice_index_or (map f xs) i y ≡ f (slice_index_or xs i x)
map_at f [] i x y within = absurd (omega arith)
map_at f (z ∷ zs) zero x y within = refl
map_at f (z ∷ zs) (suc i) x y within = map_at f zs i x y (omega arith)
