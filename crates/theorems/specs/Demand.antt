-- The demands of an hour, and how near a charge is to its exact share.
use Rattle.std.specs.Prelude.{ℕ, ◌<◌, List, ◌≡◌, ℤ, nat_abs}
use Rattle.exact.specs.Total.{total}
use Rattle.body.specs.Layout.{kind_of, coordinators_of, demands_of, demand_at}
use Rattle.shares.specs.Shares.{apart}

-- hour h of a body and hour h' of another are shared alike: the areas are of one kind, with as many coordinators, of the same demands
pub record SharedAlike (body : List ℕ) (h : ℕ) (body' : List ℕ) (h' : ℕ) : Type 0 where
  pub kind : kind_of body ≡ kind_of body'
  pub coordinators : coordinators_of body ≡ coordinators_of body'
  pub demand : (i : ℕ) → i < coordinators_of body → demand_at body h i ≡ demand_at body' h' i

-- "less than one cent from its exact share of A": T × charge and A × D differ by less than T, for coordinator i of hour h
abbrev pub NearShare : List ℕ → (h i : ℕ) → (amount charge : ℤ) → Type 0
NearShare body h i amount charge = nat_abs (apart (total (demands_of body h)) amount charge (demand_at body h i)) < total (demands_of body h)
