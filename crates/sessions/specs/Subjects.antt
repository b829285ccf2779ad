-- What a session is about.
use Rattle.std.specs.Prelude.{ℕ, List, refl}
use Rattle.std.specs.Coded.{Coded, code_by, coded_ℕ, coded×, coded_list}
use Rattle.type_terms.specs.Promised.Handles.{Entry}
use Rattle.type_terms.specs.Terms.{entry_code}
use Rattle.text_language.specs.Promised.Declarations.{Declarations}
use Rattle.text_tables.specs.Stored.{declarations_code}
use Rattle.sessions.specs.Promised.Subjects.{Subject}

abbrev pub subject_code : Coded Subject
subject_code =
    code_by (Declarations × (ℕ × (ℕ × (ℕ × (List Entry × (ℕ × (ℕ × ℕ)))))))
    (coded× declarations_code (coded× coded_ℕ (coded× coded_ℕ (coded× coded_ℕ (coded× (coded_list entry_code) (coded× coded_ℕ (coded× coded_ℕ coded_ℕ)))))))
    (λ s. (s.declarations, (s.of_crate, (s.depth, (s.handles, (s.terms, (s.goals, (s.answers, s.frames))))))))
    (λ (d, (c, (n, (h, (es, (i, (j, k))))))). record { declarations = d; of_crate = c; depth = n; handles = h; terms = es; goals = i; answers = j; frames = k })
    (λ _. refl)
