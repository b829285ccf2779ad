use Rattle.std.proofs.Common.{◌≡◌, length, take}
use Rattle.declarations.proofs.declarations.Declarations.truncate.Given as goal

abbrev pub invariant-impls : goal.invariant-impls
invariant-impls l = record {
  others : l.self ≡ record l.fn.self { structs = take l.adts l.fn.self.structs; traits = take l.traits l.fn.self.traits; impls = l.self.impls };
  kept : take l.impls l.self.impls ≡ take l.impls l.fn.self.impls;
}

abbrev pub decreases-impls : goal.decreases-impls
decreases-impls l = length l.self.impls
