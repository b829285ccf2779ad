use Rattle.search_paths.proofs.dependencies.Dependencies.gather.Goals as goal

pub returns-clause-rests : goal.returns-clause-rests
returns-clause-rests c = rw c.deref.ensures.value at c.in_ok-merge_heads.ensures.rests
