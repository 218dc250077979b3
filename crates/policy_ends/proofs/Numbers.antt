-- The later numbers of a rank, by the first one that is lower.
use Rattle.std.proofs.Common.{ℕ, ◌<◌, ◌≤◌, List, [], ◌∷◌, length}
use Rattle.vm_types.specs.declared.config.Config.{Config}
use Rattle.vm_journal.specs.declared.entry.Entry.{Entry}
use Rattle.pager_model.specs.Pager.{Pager}
use Rattle.pager_model.specs.Run.{pager_after}
use Rattle.policy_ends.specs.Rank.{IsLower, absence, filled_slots, left_to_come, numbers_for, pending, presence_of_others, unsaved}
use Rattle.policy_ends.proofs.Order.{down, here}

-- the later numbers are lower
abbrev pub AreLower : Config → List Entry → List Entry → ℕ → ℕ → ℕ → Type 0
AreLower config past more p u v = IsLower (numbers_for config more (pager_after config more) p u) (numbers_for config past (pager_after config past) p v)

module _ (config : Config) (past more : List Entry) (a b : Pager) (p u v : ℕ) where
  abbrev from_unsaved : List Entry → Pager → List ℕ
  from_unsaved xs x = unsaved xs x ∷ length x.modified ∷ []

  abbrev from_filled : List Entry → Pager → List ℕ
  from_filled xs x = filled_slots config x ∷ from_unsaved xs x

  abbrev from_unmet : List Entry → Pager → ℕ → List ℕ
  from_unmet xs x w = w ∷ from_filled xs x

  abbrev from_pending : List Entry → Pager → ℕ → List ℕ
  from_pending xs x w = pending config x p ∷ from_unmet xs x w

  abbrev from_come : List Entry → Pager → ℕ → List ℕ
  from_come xs x w = left_to_come x p ∷ from_pending xs x w

  abbrev from_absence : List Entry → Pager → ℕ → List ℕ
  from_absence xs x w = absence (x.status p) ∷ from_come xs x w

  abbrev Lower : Type 0
  Lower = IsLower (numbers_for config more b p u) (numbers_for config past a p v)

  pub lower_others : presence_of_others config b p < presence_of_others config a p → Lower
  lower_others less = here (presence_of_others config b p) (presence_of_others config a p) (from_absence more b u) (from_absence past a v) less

  module _ (others : presence_of_others config b p ≤ presence_of_others config a p) where
    after_others : IsLower (from_absence more b u) (from_absence past a v) → Lower
    after_others rest = down (presence_of_others config b p) (presence_of_others config a p) (from_absence more b u) (from_absence past a v) others rest

    pub lower_absence : absence (b.status p) < absence (a.status p) → Lower
    lower_absence less = after_others (here (absence (b.status p)) (absence (a.status p)) (from_come more b u) (from_come past a v) less)

    module _ (away : absence (b.status p) ≤ absence (a.status p)) where
      after_absence : IsLower (from_come more b u) (from_come past a v) → Lower
      after_absence rest = after_others (down (absence (b.status p)) (absence (a.status p)) (from_come more b u) (from_come past a v) away rest)

      pub lower_come : left_to_come b p < left_to_come a p → Lower
      lower_come less = after_absence (here (left_to_come b p) (left_to_come a p) (from_pending more b u) (from_pending past a v) less)

      module _ (come : left_to_come b p ≤ left_to_come a p) where
        after_come : IsLower (from_pending more b u) (from_pending past a v) → Lower
        after_come rest = after_absence (down (left_to_come b p) (left_to_come a p) (from_pending more b u) (from_pending past a v) come rest)

        pub lower_pending : pending config b p < pending config a p → Lower
        lower_pending less = after_come (here (pending config b p) (pending config a p) (from_unmet more b u) (from_unmet past a v) less)

        module _ (waits : pending config b p ≤ pending config a p) where
          after_pending : IsLower (from_unmet more b u) (from_unmet past a v) → Lower
          after_pending rest = after_come (down (pending config b p) (pending config a p) (from_unmet more b u) (from_unmet past a v) waits rest)

          pub lower_unmet : u < v → Lower
          lower_unmet less = after_pending (here u v (from_filled more b) (from_filled past a) less)

          module _ (most : u ≤ v) where
            after_unmet : IsLower (from_filled more b) (from_filled past a) → Lower
            after_unmet rest = after_pending (down u v (from_filled more b) (from_filled past a) most rest)

            pub lower_filled : filled_slots config b < filled_slots config a → Lower
            lower_filled less = after_unmet (here (filled_slots config b) (filled_slots config a) (from_unsaved more b) (from_unsaved past a) less)

            module _ (slots : filled_slots config b ≤ filled_slots config a) where
              after_filled : IsLower (from_unsaved more b) (from_unsaved past a) → Lower
              after_filled rest = after_unmet (down (filled_slots config b) (filled_slots config a) (from_unsaved more b) (from_unsaved past a) slots rest)

              pub lower_unsaved : unsaved more b < unsaved past a → Lower
              lower_unsaved less = after_filled (here (unsaved more b) (unsaved past a) (length b.modified ∷ []) (length a.modified ∷ []) less)

              pub lower_modified : unsaved more b ≤ unsaved past a → length b.modified < length a.modified → Lower
              lower_modified few less =
                  after_filled (down (unsaved more b) (unsaved past a) (length b.modified ∷ []) (length a.modified ∷ []) few (here (length b.modified) (length a.modified) [] [] less))
