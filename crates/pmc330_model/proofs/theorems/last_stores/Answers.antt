use Rattle.pmc330_model.proofs.NextStores.{last_stores}
use Rattle.pmc330_model.proofs.theorems.last_stores.Goals as goal

pub returns : goal.returns
returns c = last_stores
