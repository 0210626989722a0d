-- `names::name_of` meets its contract: computed, set by set.
-- Assumes nothing.
use Rattle.std.proofs.Common.{refl}
use Rattle.typed.specs.Sets.{named}
use Rattle.names.specs.NameLaws.{by_number}
use Rattle.names.proofs.name_of.Goals as goal

pub returns : goal.returns
unfolding named
returns c = by_number _ c.args.k c.requires (λ e. rw e refl) (λ e. rw e refl) (λ e. rw e refl) (λ e. rw e refl) (λ e. rw e refl) (λ e. rw e refl) (λ e. rw e refl) (λ e. rw e refl) (λ e. rw e refl) (λ e. rw e refl) (λ e. rw e refl) (λ e. rw e refl)
