use Rattle.text_lines.proofs.WhatIsSaid.{name-is-said, params-are-said, params-are-counted, parts-are-counted, tests-agree}
use Rattle.text_lines.proofs.what_is_said.Goals as goal

pub returns-clause-name : goal.returns-clause-name
returns-clause-name c = name-is-said

pub returns-clause-params : goal.returns-clause-params
returns-clause-params c = params-are-said

pub returns-clause-count : goal.returns-clause-count
returns-clause-count c = params-are-counted

pub returns-clause-parts : goal.returns-clause-parts
returns-clause-parts c = parts-are-counted

pub returns-clause-tests : goal.returns-clause-tests
returns-clause-tests c = tests-agree
