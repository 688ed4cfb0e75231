-- The children that a node gets and loses.
use Rattle.std.proofs.Common.{◌≡◌, ◌∙◌, ℕ, ◌+◌, cond, List, [], ◌∷◌, ◌++◌, refl, ap, sym, subst, arith, Option, Some, None, ◌==◌, is_some}
use Rattle.std.specs.Prelude.{IsSome}
use Rattle.std.proofs.lemmas.List.Sums.{sum_by-cons, sum_by_push, sum_by-set}
use Rattle.slab.specs.Slab.{Slab, get, with_value, slab_len, Updates}
use Rattle.slab.proofs.SlabLemmas.{Updates-with_value, ContainsKey-within}
use Rattle.tb_shape.specs.declared.nodes.Node.{Node}
use Rattle.tb_shape.specs.Nodes.{Recounts, ChangesNode}

-- the weight of a key in a count of another
abbrev one : ℕ → ℕ → ℕ
one key k = cond (k == key) 1 0

pub Recounts-push : (keys : List ℕ) (child : ℕ) → Recounts keys (keys ++ child ∷ []) (child ∷ []) []
Recounts-push keys child key = omega (arith, sum_by_push (one key) keys child, sum_by-cons (one key) child [])

pub Recounts-same : (keys : List ℕ) → Recounts keys keys [] []
Recounts-same keys key = refl

-- one taken out, and then another put in
pub Recounts-swap : (old mid : List ℕ) (lost got : ℕ) → Recounts old mid [] (lost ∷ []) → Recounts old (mid ++ got ∷ []) (got ∷ []) (lost ∷ [])
Recounts-swap old mid lost got counts key = omega (arith, counts key, sum_by_push (one key) mid got, sum_by-cons (one key) got [])

-- a write of the node at a slot
pub ChangesNode-with_value : (s : Slab Node) (slot : ℕ) (node now : Node) (more less : List ℕ) → get s slot ≡ Some node → now.key ≡ node.key → Recounts node.children.items now.children.items more less → ChangesNode s (with_value s slot now) slot more less
ChangesNode-with_value s slot node now more less there key counts =
    record {
      changed = λ other is. (now, updates.changed, key ∙ ap (λ (n : Node). n.key) (same other is), subst (λ (n : Node). Recounts n.children.items now.children.items more less) (same other is) counts);
      others = updates.others;
      len = omega (arith, kept, ap {B = ℕ} (λ (o : Option Node). cond (is_some o) 1 0) there);
      capacity = refl;
    }
  where
    kept : slab_len (with_value s slot now) + cond (is_some (get s slot)) 1 0 ≡ slab_len s + 1
    kept = sum_by-set (λ (o : Option Node). cond (is_some o) 1 0) s.slots slot (Some now) None (ContainsKey-within s slot (rw there refl))

    present : IsSome (get s slot)
    present = rw there refl

    same : (other : Node) → get s slot ≡ Some other → node ≡ other
    same other is = let both : Some node ≡ Some other = sym there ∙ is in cc

    updates : Updates s (with_value s slot now) slot (Some now)
    updates = Updates-with_value s slot now present
