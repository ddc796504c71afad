use Rattle.pmc330_model.proofs.NextStores.{next_stores}
use Rattle.pmc330_model.proofs.theorems.next_stores.Goals as goal

pub returns : goal.returns
returns c = next_stores
