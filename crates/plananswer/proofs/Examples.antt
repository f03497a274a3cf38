-- Answers of the folder examples: what they hold, written down from their lines, and their text, by computation.
-- Assumes nothing.
use mathlib.Core.Path.{◌≡◌, refl}
use mathlib.Core.List.{List, [], ◌∷◌, map}
use mathlib.Core.Option.{some, none as nothing}
use Prim.Native.String.{String}
use Rattle.text.specs.Write.{digits, decimal, field_text, fields_text, line_text}
use Rattle.text.proofs.Examples.{bytes}
use Rattle.sheet.specs.KeyAnswers.{wrote}
use Rattle.exchange.specs.Trees.{node, none, ◌∷ᶠ◌}
use Rattle.exchange.specs.Operators.{above}
use Rattle.exchange.specs.Ensure.{Ensured}
use Rattle.exchange.proofs.Cases.{told, leaf, answer}
use Rattle.plananswer.specs.PlanTexts.{plan_lines, plan_answer_text, distributed}

record Case : Type 0 where
  answer : Ensured
  text : String

cases : List Case
cases =
    -- bound-limit-4294967295
    record {
      answer = answer 0 0 0 0 (leaf (told 1 0 1 0 (some 4294967295) 0 0 0 0));
      text = "d,0,0,0,0\nt,1,0,1,0,4294967295,0,0,0,0\n";
    }
    -- decision-23-limited-merge
    ∷ record {
      answer =
          answer 1 0 0 0
          (above (told 1 0 1 0 nothing 0 0 0 0) (above (told 0 11 1 0 (some 7) 2 0 0 0) (above (told 2 2 1 1 nothing 0 0 1 0) (leaf (told 3 0 2 0 nothing 2 0 0 0)))));
      text = "d,1,0,0,0\nt,1,0,1,0,,0,0,0,1\nt,0,11,1,0,7,2,0,0,1\nt,2,2,1,1,,0,0,1,1\nt,3,0,2,0,,2,0,0,0\n";
    }
    -- bound-entries-8
    ∷ record {
      answer =
          answer 1 0 0 0
          (above (told 1 0 1 0 nothing 1 0 0 0) (above (told 0 11 1 0 nothing 0 255 0 0) (above (told 2 2 1 0 nothing 0 0 1 0) (leaf (told 3 0 2 0 nothing 1 0 0 0)))));
      text = "d,1,0,0,0\nt,1,0,1,0,,1,0,0,1\nt,0,11,1,0,,0,255,0,1\nt,2,2,1,0,,0,0,1,1\nt,3,0,2,0,,1,0,0,0\n";
    }
    -- decision-22-interleave
    ∷ record {
      answer =
          answer 1 0 1 0 (node (told 1 14 8 0 (some 3) 0 0 0 0) (leaf (told 2 0 4 0 nothing 5 0 1 2) ∷ᶠ leaf (told 3 0 4 0 nothing 5 0 1 2) ∷ᶠ none));
      text = "d,1,0,1,0\nt,1,14,8,0,3,0,0,0,2\nt,2,0,4,0,,5,0,1,0\nt,3,0,4,0,,5,0,1,0\n";
    }
    -- exchange-relationship-two-rounds
    ∷ record {
      answer =
          answer 1 0 0 0
          (node (told 1 5 1 0 nothing 0 0 0 0)
          (above (told 0 12 4 0 nothing 0 0 1 2) (leaf (told 2 0 1 0 nothing 0 0 1 2))
          ∷ᶠ above (told 0 12 4 0 nothing 0 0 1 2) (leaf (told 3 0 1 0 nothing 0 0 1 2))
          ∷ᶠ none));
      text = "d,1,0,0,0\nt,1,5,1,0,,0,0,0,2\nt,0,12,4,0,,0,0,1,1\nt,2,0,1,0,,0,0,1,0\nt,0,12,4,0,,0,0,1,1\nt,3,0,1,0,,0,0,1,0\n";
    }
    ∷ []

answers_written : map (λ (c : Case). distributed c.answer) cases ≡ map (λ (c : Case). wrote (bytes c.text)) cases
unfolding cases digits decimal field_text fields_text line_text plan_lines plan_answer_text
answers_written = refl
