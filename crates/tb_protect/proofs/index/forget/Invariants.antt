use Rattle.std.proofs.Common.{◌≡◌, ℕ, None, cond, drop, take}
use Rattle.std.specs.List.{list_any}
use Rattle.std.specs.HashMap.{get}
use Rattle.tb_perm.specs.declared.tag.Prov.{Prov}
use Rattle.tb_protect.specs.Kept.{key_of, same_key}
use Rattle.tb_protect.proofs.index.forget.Given as goal

abbrev pub invariant-loop-prov : goal.invariant-loop-prov
invariant-loop-prov l = (key : ℕ × ℕ) → get same_key l.index key ≡ cond (list_any (λ (p : Prov). same_key (key_of p) key) (take l.prov-index (drop l.start l.provs))) None (get same_key l.fn.index key)
