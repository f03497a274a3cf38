-- Relationship rounds, order handling and unions: places of 000 that no sheet of the folder examples reaches.
-- Each answer is derived by hand from the sentence above it, and holds by computation.
use mathlib.Core.Path.{refl}
use mathlib.Core.Option.{some, none as nothing}
use mathlib.Core.List.{List, [], ◌∷◌}
use Rattle.exchange.specs.Trees.{node, none, ◌∷ᶠ◌}
use Rattle.exchange.specs.Facts.{row_of}
use Rattle.exchange.specs.Operators.{above}
use Rattle.exchange.specs.Children.{any_unspecified, update_each, remove_dist_changing_operators}
use Rattle.exchange.specs.States.{children_from, each_of}
use Rattle.exchange.specs.Status.{needs_alignment}
use Rattle.exchange.specs.Step.{ensure_child}
use Rattle.exchange.specs.Relationships.{given_set, any_givable, round, rounds}
use Rattle.exchange.specs.Replace.{replace_order_preserving_variants}
use Rattle.exchange.specs.Order.{kept_entries, handle_order}
use Rattle.exchange.specs.Ensure.{all_layouts, child_states, handled, finished, ensured}
use Rattle.exchange.proofs.Cases.{Case, Right, settings, child, row, facts, line, told, leaf, answer}

abbrev pub rows : List Case
rows =
    -- 001, add_sort_above_with_check: a requirement that holds after the replacement gets no sort
    record {
      settings = settings 4 0 0 8192 0 9 0 0 0;
      facts =
          facts 0 0 0 0
          (child 0 1 2 0 0 0 1 ∷ [])
          (row 1 0 1 0 0 0 0 1 1 0 0 0 1 ∷ [])
          (0 ∷ 0 ∷ []);
      plan = above (line 1 0 1 0 nothing 0 0 0) (above (line 2 1 1 0 nothing 1 0 0) (leaf (line 3 0 2 0 nothing 1 0 0)));
      answer = answer 1 0 0 0 (above (told 1 0 1 0 nothing 0 0 0 0) (above (told 2 2 1 0 nothing 0 0 0 0) (leaf (told 3 0 2 0 nothing 1 0 0 0))));
    }
    -- 000: a single need over a parent that keeps no order is replaced, its mark not asked
    ∷ record {
      settings = settings 4 0 0 8192 0 9 0 0 0;
      facts =
          facts 0 0 0 0
          (child 0 0 2 0 0 0 0 ∷ [])
          (row 1 0 1 0 0 0 0 0 0 0 0 0 1 ∷ [])
          (0 ∷ 0 ∷ []);
      plan = above (line 1 0 1 0 nothing 0 0 0) (above (line 2 4 1 1 nothing 1 1 1) (leaf (line 3 0 2 0 nothing 1 0 0)));
      answer = answer 1 0 0 0 (above (told 1 0 1 0 nothing 0 0 0 0) (above (told 2 4 1 0 nothing 0 0 0 1) (leaf (told 3 0 2 0 nothing 1 0 0 0))));
    }
    -- 000: prefer_existing_sort makes the variants desirable, so a held order stays; its tracking stops
    ∷ record {
      settings = settings 4 0 0 8192 0 9 0 1 0;
      facts =
          facts 0 0 0 0
          (child 0 1 2 0 0 0 1 ∷ [])
          (row 1 0 1 0 0 0 0 1 0 0 0 0 1 ∷ [])
          (0 ∷ 0 ∷ []);
      plan = above (line 1 0 1 0 nothing 0 0 0) (above (line 2 1 1 0 nothing 1 0 0) (leaf (line 3 0 2 0 nothing 1 0 0)));
      answer = answer 1 0 0 0 (above (told 1 0 1 0 nothing 0 0 0 0) (above (told 2 1 1 0 nothing 1 0 0 0) (leaf (told 3 0 2 0 nothing 1 0 0 0))));
    }
    -- 000: a child already repartitioned for the relationship is passed over, the other one of the round is not
    ∷ record {
      settings = settings 4 0 0 8192 0 9 0 0 0;
      facts =
          facts 0 0 0 0
          (child 0 1 2 0 0 0 0 ∷ child 0 1 2 0 0 0 0 ∷ [])
          (row 1 0 1 0 0 1 1 0 0 0 0 0 0 ∷ row 1 8 4 1 1 1 1 0 0 0 0 0 0 ∷ row 2 0 1 0 0 1 1 0 0 0 0 0 0 ∷ row 2 8 4 1 1 1 1 0 0 0 0 0 0 ∷ [])
          (1 ∷ 3 ∷ 0 ∷ 0 ∷ []);
      plan = node (line 1 5 1 0 nothing 0 0 0) (leaf (line 2 0 1 0 nothing 0 0 2) ∷ᶠ leaf (line 3 0 1 0 nothing 0 0 2) ∷ᶠ none);
      answer = answer 1 0 0 0 (node (told 1 5 1 0 nothing 0 0 0 0) (above (told 0 12 4 0 nothing 0 0 1 2) (leaf (told 2 0 1 0 nothing 0 0 1 2)) ∷ᶠ above (told 0 12 4 0 nothing 0 0 1 2) (leaf (told 3 0 1 0 nothing 0 0 1 2)) ∷ᶠ none));
    }
    -- 000: only one hashed into the target by exactly its keys is left; here the new exchange is not exact, so another comes on top of it
    ∷ record {
      settings = settings 4 0 0 8192 0 9 0 0 0;
      facts =
          facts 0 0 0 0
          (child 0 1 2 0 0 0 0 ∷ [])
          (row 1 0 2 0 0 0 0 0 0 0 0 0 1 ∷ row 1 4 4 1 1 0 0 0 0 0 0 0 2 ∷ row 1 12 4 1 1 1 1 0 0 0 0 0 2 ∷ [])
          (1 ∷ 0 ∷ []);
      plan = above (line 1 0 4 0 nothing 0 0 0) (leaf (line 2 0 2 0 nothing 1 0 2));
      answer = answer 1 0 0 0 (above (told 1 0 4 0 nothing 0 0 0 0) (above (told 0 12 4 1 nothing 2 0 1 2) (above (told 0 12 4 1 nothing 2 0 1 2) (leaf (told 2 0 2 0 nothing 1 0 1 2)))));
    }
    -- 01: form is split + 2×top + 8×relationship: a split child that a round gives an exchange has form 9
    ∷ record {
      settings = settings 4 0 1 8192 0 9 0 0 0;
      facts =
          facts 0 0 0 0
          (child 0 1 2 0 0 1 0 ∷ [])
          (row 1 0 1 0 0 1 1 0 0 0 0 0 0 ∷ row 1 1 3 0 0 0 0 0 0 0 0 0 0 ∷ row 1 9 4 1 1 1 1 0 0 0 0 0 0 ∷ [])
          (1 ∷ 0 ∷ []);
      plan = above (line 1 0 4 0 nothing 0 0 0) (leaf (line 2 0 1 0 nothing 0 0 2));
      answer = answer 1 0 0 0 (above (told 1 0 4 0 nothing 0 0 0 0) (above (told 0 12 4 0 nothing 0 0 1 2) (leaf (told 2 0 3 0 nothing 0 0 1 2))));
    }
    -- 001: a sort over more than one partition preserves the partitioning; 01: it has the count under it
    ∷ record {
      settings = settings 4 0 0 8192 0 9 0 0 0;
      facts =
          facts 0 0 0 0
          (child 0 1 2 0 0 0 1 ∷ [])
          (row 1 0 4 0 0 0 0 1 0 0 0 0 1 ∷ [])
          (0 ∷ 0 ∷ []);
      plan = above (line 1 0 4 0 nothing 0 0 0) (above (line 2 3 4 1 nothing 1 0 0) (leaf (line 3 0 2 0 nothing 1 0 0)));
      answer = answer 1 0 0 0 (above (told 1 0 4 0 nothing 0 0 0 0) (above (told 0 11 4 0 nothing 0 1 0 0) (above (told 2 3 4 0 nothing 0 0 1 0) (leaf (told 3 0 2 0 nothing 1 0 0 0)))));
    }
    -- 000: the limited merge gets its own sort first; the required order then asks for another above it
    ∷ record {
      settings = settings 4 0 0 8192 0 9 0 0 0;
      facts =
          facts 0 0 0 0
          (child 0 1 2 0 0 0 1 ∷ [])
          (row 1 0 1 0 0 0 0 1 0 0 0 0 1 ∷ [])
          (0 ∷ 0 ∷ []);
      plan = above (line 1 0 1 0 nothing 0 0 0) (above (line 2 1 1 0 (some 5) 1 0 0) (leaf (line 3 0 2 0 nothing 1 0 0)));
      answer = answer 1 0 0 0 (above (told 1 0 1 0 nothing 0 0 0 0) (above (told 0 11 1 0 nothing 0 1 0 0) (above (told 0 11 1 0 (some 5) 1 0 0 0) (above (told 2 2 1 0 nothing 0 0 1 0) (leaf (told 3 0 2 0 nothing 1 0 0 0))))));
    }
    -- 000: rounds go on while one changes something
    ∷ record {
      settings = settings 4 0 0 8192 0 9 0 0 0;
      facts =
          facts 0 0 0 0
          (child 0 1 2 0 0 0 0 ∷ child 0 1 2 0 0 0 0 ∷ child 0 1 2 0 0 0 0 ∷ [])
          (row 1 0 1 0 0 1 1 0 0 0 0 0 0 ∷ row 1 8 4 1 1 1 1 0 0 0 0 0 0 ∷ row 2 0 1 0 0 1 1 0 0 0 0 0 0 ∷ row 2 8 4 1 1 1 1 0 0 0 0 0 0 ∷ row 3 0 1 0 0 1 1 0 0 0 0 0 0 ∷ row 3 8 4 1 1 1 1 0 0 0 0 0 0 ∷ [])
          (4 ∷ 0 ∷ 0 ∷ 0 ∷ 2 ∷ 0 ∷ 1 ∷ 0 ∷ []);
      plan = node (line 1 0 1 0 nothing 0 0 0) (leaf (line 2 0 1 0 nothing 0 0 2) ∷ᶠ leaf (line 3 0 1 0 nothing 0 0 2) ∷ᶠ leaf (line 4 0 1 0 nothing 0 0 2) ∷ᶠ none);
      answer = answer 1 0 0 0 (node (told 1 0 1 0 nothing 0 0 0 0) (above (told 0 12 4 0 nothing 0 0 1 2) (leaf (told 2 0 1 0 nothing 0 0 1 2)) ∷ᶠ above (told 0 12 4 0 nothing 0 0 1 2) (leaf (told 3 0 1 0 nothing 0 0 1 2)) ∷ᶠ above (told 0 12 4 0 nothing 0 0 1 2) (leaf (told 4 0 1 0 nothing 0 0 1 2)) ∷ᶠ none));
    }
    -- 000: an order that is not held is replaced, and no sort comes here: only one that was held is restored
    ∷ record {
      settings = settings 4 0 0 8192 0 9 0 0 0;
      facts =
          facts 1 0 0 0
          (child 0 1 2 0 0 0 1 ∷ [])
          (row 1 0 1 0 0 0 0 0 0 0 0 0 1 ∷ [])
          (0 ∷ 0 ∷ []);
      plan = above (line 1 0 1 0 nothing 0 0 0) (above (line 2 1 1 0 nothing 1 0 0) (leaf (line 3 0 2 0 nothing 1 0 0)));
      answer = answer 1 0 0 0 (above (told 1 0 1 0 nothing 0 0 0 0) (above (told 2 2 1 0 nothing 0 0 0 0) (leaf (told 3 0 2 0 nothing 1 0 0 0))));
    }
    -- 01: a union becomes an interleave if all layouts are equal and not 0
    ∷ record {
      settings = settings 4 0 0 8192 0 9 0 0 0;
      facts =
          facts 0 0 0 0
          (child 0 1 2 0 0 0 0 ∷ child 0 1 2 0 0 0 0 ∷ [])
          (row 1 0 4 1 1 0 0 0 0 0 0 0 0 ∷ row 2 0 4 2 1 0 0 0 0 0 0 0 0 ∷ [])
          (0 ∷ 0 ∷ 0 ∷ 0 ∷ []);
      plan = node (line 1 9 8 0 nothing 0 0 0) (leaf (line 2 0 4 0 nothing 0 0 0) ∷ᶠ leaf (line 3 0 4 0 nothing 0 0 0) ∷ᶠ none);
      answer = answer 1 0 0 0 (node (told 1 9 8 0 nothing 0 0 0 0) (leaf (told 2 0 4 0 nothing 0 0 1 0) ∷ᶠ leaf (told 3 0 4 0 nothing 0 0 1 0) ∷ᶠ none));
    }
    -- the same: equal, but 0
    ∷ record {
      settings = settings 4 0 0 8192 0 9 0 0 0;
      facts =
          facts 0 0 0 0
          (child 0 1 2 0 0 0 0 ∷ child 0 1 2 0 0 0 0 ∷ [])
          (row 1 0 4 0 1 0 0 0 0 0 0 0 0 ∷ row 2 0 4 0 1 0 0 0 0 0 0 0 0 ∷ [])
          (0 ∷ 0 ∷ 0 ∷ 0 ∷ []);
      plan = node (line 1 9 8 0 nothing 0 0 0) (leaf (line 2 0 4 0 nothing 0 0 0) ∷ᶠ leaf (line 3 0 4 0 nothing 0 0 0) ∷ᶠ none);
      answer = answer 1 0 0 0 (node (told 1 9 8 0 nothing 0 0 0 0) (leaf (told 2 0 4 0 nothing 0 0 1 0) ∷ᶠ leaf (told 3 0 4 0 nothing 0 0 1 0) ∷ᶠ none));
    }
    -- 000: where an order is required an untracked child is left alone, held or not
    ∷ record {
      settings = settings 4 0 0 8192 0 9 0 0 0;
      facts =
          facts 0 0 0 0
          (child 0 1 2 0 0 0 1 ∷ [])
          (row 1 0 4 0 0 0 0 0 0 0 0 0 1 ∷ [])
          (0 ∷ 0 ∷ []);
      plan = above (line 1 0 1 0 nothing 0 0 0) (above (line 2 4 4 1 nothing 1 1 0) (leaf (line 3 0 2 0 nothing 1 0 0)));
      answer = answer 1 0 0 0 (above (told 1 0 1 0 nothing 0 0 0 0) (above (told 2 4 4 1 nothing 1 0 0 0) (leaf (told 3 0 2 0 nothing 1 0 0 0))));
    }
    -- 000: blocking even with ordering is no benefit, so the held order is given up and sorted again
    ∷ record {
      settings = settings 4 0 0 8192 0 9 0 0 0;
      facts =
          facts 0 0 0 0
          (child 0 1 2 0 0 0 1 ∷ [])
          (row 1 0 1 0 0 0 0 1 0 0 1 1 1 ∷ [])
          (0 ∷ 0 ∷ []);
      plan = above (line 1 0 1 0 nothing 0 0 0) (above (line 2 1 1 0 nothing 1 0 0) (leaf (line 3 0 2 0 nothing 1 0 0)));
      answer = answer 1 0 0 0 (above (told 1 0 1 0 nothing 0 0 0 0) (above (told 0 11 1 0 nothing 0 1 0 0) (above (told 2 2 1 0 nothing 0 0 1 0) (leaf (told 3 0 2 0 nothing 1 0 0 0)))));
    }
    ∷ []

pub derived : Right rows
unfolding row_of any_unspecified update_each remove_dist_changing_operators children_from each_of needs_alignment ensure_child given_set any_givable round rounds replace_order_preserving_variants kept_entries handle_order all_layouts child_states handled finished ensured
derived = (refl, (refl, (refl, (refl, (refl, (refl, (refl, (refl, (refl, (refl, (refl, (refl, (refl, (refl, tt))))))))))))))
