-- No two impls of `core` overlap: their headers differ in the trait or in the first label.
use Rattle.std.proofs.Common.{◌≡◌, zero, Bool, true, false, not, refl, ap, sym, ◌∙◌, ◌&&◌, ◌||◌, ◌==◌, ◌⊎◌, inl, inr, subst}
use Rattle.std.specs.List.{list_all}
use Rattle.type_terms.specs.Promised.Label.{Label, never, param}
use Rattle.type_terms.specs.Codes.{same_label}
use Rattle.type_terms.specs.Promised.Trees.{Trees, none, tree, instantiate}
use Rattle.type_terms.specs.Promised.Worlds.{ImplDecl, Reference}
use Rattle.type_terms.specs.Promised.Proofs.{In}
use Rattle.type_terms.specs.Promised.Answers.{Overlaps}
use Rattle.type_terms.specs.Promised.Core.{core_world}
use Rattle.type_terms.specs.Laws.{CoreIsCoherent}
use Rattle.type_terms.proofs.Members.{same-number, self-number, not-both}
use Rattle.type_terms.proofs.Walking.{left, right, or-cases}
use Rattle.type_terms.proofs.Fitting.{not-true}
use Rattle.type_terms.proofs.NoHolds.{member-each}
use Rattle.type_terms.proofs.Applies.{same-label-itself as same-itself}

-- the first label
abbrev head : Trees → Label
head none = never
head (tree l c o) = l

-- the first label is there, and is no parameter
abbrev rigid : Trees → Bool
rigid none = false
rigid (tree (param _ _) c o) = false
rigid (tree l c o) = true

head-kept : (A t : Trees) → rigid t ≡ true → head (instantiate zero A t) ≡ head t
head-kept A none h = cc
head-kept A (tree (param s i) c o) h = cc
head-kept A (tree l c o) h = refl

differ : ImplDecl → ImplDecl → Bool
differ i j = (i.name == j.name) || (not (i.header.trait == j.header.trait) || not (same_label (head i.header.args) (head j.header.args)))

all-differ : list_all (λ i. rigid i.header.args && list_all (differ i) core_world.impls) core_world.impls ≡ true
unfolding differ
all-differ = refl

apart : (i j : ImplDecl) → rigid i.header.args ≡ true → rigid j.header.args ≡ true → differ i j ≡ true → Overlaps i j → i.name ≡ j.name
unfolding differ
apart i j ri rj d m = by (or-cases (i.name == j.name) _ d)
  where
    traits : (i.header.trait == j.header.trait) ≡ true
    traits = subst (λ t. (i.header.trait == t) ≡ true) (ap (λ (r : Reference). r.trait) m.equal) (self-number i.header.trait)

    heads : head i.header.args ≡ head j.header.args
    heads = sym (head-kept m.left i.header.args ri) ∙ ap (λ (r : Reference). head r.args) m.equal ∙ head-kept m.right j.header.args rj

    labels : same_label (head i.header.args) (head j.header.args) ≡ true
    labels = subst (λ l. same_label (head i.header.args) l ≡ true) heads (same-itself (head i.header.args))

    later : (not (i.header.trait == j.header.trait) ≡ true) ⊎ (not (same_label (head i.header.args) (head j.header.args)) ≡ true) → i.name ≡ j.name
    later (inl e) = absurd (not-both (i.header.trait == j.header.trait) traits (not-true (i.header.trait == j.header.trait) e))
    later (inr e) = absurd (not-both (same_label (head i.header.args) (head j.header.args)) labels (not-true (same_label (head i.header.args) (head j.header.args)) e))

    by : ((i.name == j.name) ≡ true) ⊎ ((not (i.header.trait == j.header.trait) || not (same_label (head i.header.args) (head j.header.args))) ≡ true) → i.name ≡ j.name
    by (inl e) = same-number i.name j.name e
    by (inr e) = later (or-cases (not (i.header.trait == j.header.trait)) _ e)

pub core-coherent : CoreIsCoherent
core-coherent = (refl, (λ i j hi hj m. at i j hi hj m))
  where
    row : (i : ImplDecl) → In i core_world.impls → rigid i.header.args && list_all (differ i) core_world.impls ≡ true
    row i h = member-each (λ (x : ImplDecl). rigid x.header.args && list_all (differ x) core_world.impls) core_world.impls i all-differ h

    at : (i j : ImplDecl) → In i core_world.impls → In j core_world.impls → Overlaps i j → i.name ≡ j.name
    at i j hi hj m =
        apart i j (left (rigid i.header.args) _ (row i hi)) (left (rigid j.header.args) _ (row j hj))
        (member-each (differ i) core_world.impls j (right (rigid i.header.args) _ (row i hi)) hj) m
