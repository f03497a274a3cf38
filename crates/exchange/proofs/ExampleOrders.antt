-- Sheets of the folder examples on order handling and unions, as rows of one table, by computation.
use mathlib.Core.Path.{refl}
use mathlib.Core.Option.{some, none as nothing}
use mathlib.Core.List.{List, [], ◌∷◌}
use Rattle.exchange.specs.Trees.{node, none, ◌∷ᶠ◌}
use Rattle.exchange.specs.Facts.{row_of}
use Rattle.exchange.specs.Operators.{above}
use Rattle.exchange.specs.Children.{any_unspecified, update_each, remove_dist_changing_operators}
use Rattle.exchange.specs.States.{children_from, each_of}
use Rattle.exchange.specs.Status.{needs_alignment}
use Rattle.exchange.specs.Step.{ensure_child}
use Rattle.exchange.specs.Relationships.{given_set, any_givable, round, rounds}
use Rattle.exchange.specs.Replace.{replace_order_preserving_variants}
use Rattle.exchange.specs.Order.{kept_entries, handle_order}
use Rattle.exchange.specs.Ensure.{all_layouts, child_states, handled, finished, ensured}
use Rattle.exchange.proofs.Cases.{Case, Right, settings, child, row, facts, line, told, leaf, answer}

abbrev pub rows : List Case
rows =
    -- decision 21: an operator above one that lost its order keeps its own label
    record {
      settings = settings 4 0 0 8192 0 9 0 0 0;
      facts =
          facts 0 0 0 0
          (child 0 0 2 0 0 0 0 ∷ [])
          (row 1 0 4 0 0 0 0 0 0 0 0 0 1 ∷ [])
          (0 ∷ 0 ∷ []);
      plan = above (line 1 0 1 0 nothing 0 0 0) (above (line 2 0 4 0 nothing 1 0 0) (above (line 3 3 4 1 nothing 1 1 0) (leaf (line 4 0 2 0 nothing 1 0 0))));
      answer = answer 1 0 0 0 (above (told 1 0 1 0 nothing 0 0 0 0) (above (told 2 0 4 0 nothing 1 0 1 0) (above (told 3 3 4 0 nothing 0 0 1 0) (leaf (told 4 0 2 0 nothing 1 0 0 0)))));
    }
    -- decision 22: a union whose children are hashed alike
    ∷ record {
      settings = settings 4 0 0 8192 0 9 0 0 0;
      facts =
          facts 0 0 0 0
          (child 0 1 2 0 0 0 0 ∷ child 0 1 2 0 0 0 0 ∷ [])
          (row 1 0 4 1 1 0 0 0 0 0 0 0 5 ∷ row 2 0 4 1 1 0 0 0 0 0 0 0 5 ∷ [])
          (0 ∷ 0 ∷ 0 ∷ 0 ∷ []);
      plan = node (line 1 9 8 0 (some 3) 5 0 0) (leaf (line 2 0 4 0 nothing 5 0 0) ∷ᶠ leaf (line 3 0 4 0 nothing 5 0 0) ∷ᶠ none);
      answer = answer 1 0 1 0 (node (told 1 14 8 0 (some 3) 0 0 0 0) (leaf (told 2 0 4 0 nothing 5 0 1 0) ∷ᶠ leaf (told 3 0 4 0 nothing 5 0 1 0) ∷ᶠ none));
    }
    -- decision 23: a limited merge becomes a coalesce, its limit and order on the sort above
    ∷ record {
      settings = settings 4 0 0 8192 0 9 0 0 0;
      facts =
          facts 0 0 0 0
          (child 0 0 2 0 0 0 0 ∷ [])
          (row 1 0 1 0 0 0 0 0 0 0 0 0 2 ∷ [])
          (0 ∷ 0 ∷ []);
      plan = above (line 1 0 1 0 nothing 0 0 0) (above (line 2 1 1 1 (some 7) 2 0 0) (leaf (line 3 0 2 0 nothing 2 0 0)));
      answer = answer 1 0 0 0 (above (told 1 0 1 0 nothing 0 0 0 0) (above (told 0 11 1 0 (some 7) 2 0 0 0) (above (told 2 2 1 1 nothing 0 0 1 0) (leaf (told 3 0 2 0 nothing 2 0 0 0)))));
    }
    -- decision 24: a required sort has the limit of an output requirement
    ∷ record {
      settings = settings 4 0 0 8192 0 9 0 0 0;
      facts =
          facts 0 0 0 0
          (child 0 1 2 0 0 0 2 ∷ [])
          (row 1 0 1 0 0 0 0 1 0 0 0 0 1 ∷ [])
          (0 ∷ 0 ∷ []);
      plan = above (line 1 10 1 0 (some 6) 1 0 0) (above (line 2 1 1 0 nothing 1 0 1) (leaf (line 3 0 2 0 nothing 1 0 0)));
      answer = answer 1 0 0 0 (above (told 1 10 1 0 (some 6) 1 0 0 0) (above (told 0 11 1 0 (some 6) 0 3 0 1) (above (told 2 2 1 0 nothing 0 0 1 1) (leaf (told 3 0 2 0 nothing 1 0 0 0)))));
    }
    -- decision 24: and of no other operator
    ∷ record {
      settings = settings 4 0 0 8192 0 9 0 0 0;
      facts =
          facts 0 0 0 0
          (child 0 1 2 0 0 0 2 ∷ [])
          (row 1 0 1 0 0 0 0 1 0 0 0 0 1 ∷ [])
          (0 ∷ 0 ∷ []);
      plan = above (line 1 0 1 0 (some 6) 1 0 0) (above (line 2 1 1 0 nothing 1 0 1) (leaf (line 3 0 2 0 nothing 1 0 0)));
      answer = answer 1 0 0 0 (above (told 1 0 1 0 (some 6) 1 0 0 0) (above (told 0 11 1 0 nothing 0 3 0 1) (above (told 2 2 1 0 nothing 0 0 1 1) (leaf (told 3 0 2 0 nothing 1 0 0 0)))));
    }
    -- decision 24: a constant entry is dropped
    ∷ record {
      settings = settings 4 0 0 8192 0 9 0 0 0;
      facts =
          facts 0 0 0 0
          (child 0 1 2 0 0 0 2 ∷ [])
          (row 1 0 1 0 0 0 0 1 0 1 0 0 1 ∷ [])
          (0 ∷ 0 ∷ []);
      plan = above (line 1 0 1 0 nothing 1 0 0) (above (line 2 1 1 0 nothing 1 0 1) (leaf (line 3 0 2 0 nothing 1 0 0)));
      answer = answer 1 0 0 0 (above (told 1 0 1 0 nothing 1 0 0 0) (above (told 0 11 1 0 nothing 0 2 0 1) (above (told 2 2 1 0 nothing 0 0 1 1) (leaf (told 3 0 2 0 nothing 1 0 0 0)))));
    }
    -- O1: an untracked child is replaced, what is below it is not
    ∷ record {
      settings = settings 4 0 0 8192 0 9 0 0 0;
      facts =
          facts 0 0 0 0
          (child 0 0 2 0 0 0 0 ∷ [])
          (row 1 0 4 0 0 0 0 0 0 0 0 0 1 ∷ [])
          (0 ∷ 0 ∷ []);
      plan = above (line 1 0 1 0 nothing 0 0 0) (above (line 2 4 4 1 nothing 1 0 0) (above (line 3 3 4 1 nothing 1 0 0) (leaf (line 4 0 2 0 nothing 1 0 0))));
      answer = answer 1 0 0 0 (above (told 1 0 1 0 nothing 0 0 0 0) (above (told 2 4 4 0 nothing 0 0 0 0) (above (told 3 3 4 1 nothing 1 0 0 0) (leaf (told 4 0 2 0 nothing 1 0 0 0)))));
    }
    -- O2: under an output requirement an unspecified need is replaced, though order is kept and streaming gains
    ∷ record {
      settings = settings 4 0 0 8192 0 9 0 0 0;
      facts =
          facts 0 0 0 0
          (child 0 1 2 0 0 0 0 ∷ [])
          (row 1 0 1 0 0 0 0 0 0 0 0 1 1 ∷ [])
          (0 ∷ 0 ∷ []);
      plan = above (line 1 10 1 0 nothing 1 0 0) (above (line 2 1 1 0 nothing 1 0 0) (leaf (line 3 0 2 0 nothing 1 0 0)));
      answer = answer 1 0 0 0 (above (told 1 10 1 0 nothing 1 0 0 0) (above (told 2 2 1 0 nothing 0 0 1 0) (leaf (told 3 0 2 0 nothing 1 0 0 0))));
    }
    ∷ []

pub examples : Right rows
unfolding row_of any_unspecified update_each remove_dist_changing_operators children_from each_of needs_alignment ensure_child given_set any_givable round rounds replace_order_preserving_variants kept_entries handle_order all_layouts child_states handled finished ensured
examples = (refl, (refl, (refl, (refl, (refl, (refl, (refl, (refl, tt))))))))
