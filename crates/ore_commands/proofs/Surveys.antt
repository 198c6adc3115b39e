-- A survey: what `analyse` finds for a generated problem, `check` finds valid behind the text of that problem.
--     EndsLine               behind any bytes, these have their last line end
--     end_ends, behind       `end` and a line end are so, and so are they behind others
--     problem_is_closed      the text of a problem has its last line end
--     found_is_valid         the law for one certificate
--     survey_due             the reply of `check` says so
use Rattle.std.proofs.Common.{◌≡◌, ℕ, List, [], ◌∷◌, ◌++◌, refl, sym, ap, subst, ◌∙◌, append_assoc}
use Rattle.std.specs.Prelude.{codes, length}
use Rattle.std.specs.List.{flat_map, zip}
use Rattle.ore_problem.specs.Problems.{System}
use Rattle.ore_problem.specs.ProblemText.{problem_text, declaration_text, matrix_text, order_word}
use Rattle.ore_problem.proofs.AcceptedReads.{reads_exactly}
use Rattle.ore_text.specs.Lines.{line}
use Rattle.ore_generate.specs.Chain.{generated}
use Rattle.ore_generate.specs.Laws.{GeneratedIsRead}
use Rattle.ore_cert.specs.KindWords.{kind_word}
use Rattle.ore_cert.specs.declared.certificate.Certificate.{Certificate}
use Rattle.ore_cert.specs.declared.report.Plan.TheVariants.{Analyse}
use Rattle.ore_reply.specs.Replies.{Reply, valid}
use Rattle.ore_commands.specs.AcceptedAnswers.{closed}
use Rattle.ore_commands.specs.Finding.{search_by, text_of, IsFound, SaysFound}
use Rattle.ore_commands.specs.Generating.{generated_text}
use Rattle.ore_commands.specs.Surveying.{survey_text, SaysSurveyed}
use Rattle.ore_commands.specs.ReplyOfCheck.{IsReplyOfCheck, HasOneReplyOfCheck}
use Rattle.ore_commands.proofs.AcceptedAnswers.{verdict_is_valid}

-- ---- line ends

abbrev EndsLine : List ℕ → Type 0
EndsLine ys = (xs : List ℕ) → closed (xs ++ ys) ≡ xs ++ ys

end_ends : EndsLine (codes "end\n")
unfolding closed
end_ends [] = refl
end_ends (x ∷ []) = refl
end_ends (x ∷ y ∷ ys) = ap (λ t. x ∷ t) (end_ends (y ∷ ys))

behind : (front ys : List ℕ) → EndsLine ys → EndsLine (front ++ ys)
behind front ys h xs = ap closed (sym (append_assoc xs front ys)) ∙ h (xs ++ front) ∙ append_assoc xs front ys

problem_is_closed : (p : System) → closed (problem_text p) ≡ problem_text p
unfolding problem_text
problem_is_closed p =
    let o = p.signature.order in
    behind (codes "ore 1\n") _ (behind (line (codes "order" ∷ order_word o ∷ [])) _ (behind (flat_map (declaration_text p.names) (zip p.names p.signature.kinds)) _
    (behind (matrix_text p.names o p.cols p.rows) _ end_ends))) []

-- ---- what is found

module _ (read : GeneratedIsRead) (n : ℕ) where
  found_is_valid : (c : Certificate) → IsFound (generated n) (search_by Analyse) c → IsReplyOfCheck (generated_text n ++ text_of (generated n) c) (valid (kind_word c))
  found_is_valid c found =
      subst (λ t. IsReplyOfCheck (t ++ text_of (generated n) c) (valid (kind_word c))) (problem_is_closed (generated n))
      (verdict_is_valid (generated_text n) (generated n) ((reads_exactly (generated_text n) (generated n)).0 (read n)) c found)

  -- the text of what `check` replies, and what the lines say that have its end
  pub survey_due : HasOneReplyOfCheck → (certificate : List ℕ) (checked : Reply) → SaysFound (generated n) (search_by Analyse) certificate → IsReplyOfCheck (generated_text n ++ certificate) checked
      → (verdict : List ℕ) × (checked.text ≡ codes "valid " ++ verdict) × ((text : List ℕ) → text ≡ survey_text verdict (length certificate) → SaysSurveyed n text)
  survey_due one certificate checked (c, found, said) verdict =
      let due = subst (λ t. IsReplyOfCheck (generated_text n ++ t) (valid (kind_word c))) (sym said) (found_is_valid c found) in
      let word = kind_word c ++ codes "\n" in (
        word,
        ap (λ (r : Reply). r.text) (one (generated_text n ++ certificate) checked (valid (kind_word c)) verdict due),
        λ text e. record { certificate = c; found = found; text = e ∙ ap (λ t. survey_text word (length t)) said },
      )
