-- A refused service changes nothing.
use Rattle.std.proofs.Common.{◌≡◌, ℕ, refl}
use Rattle.vm_types.specs.declared.config.Config.{Config}
use Rattle.vm_types.specs.declared.reply.Answer.TheVariants as answer
use Rattle.vm_types.specs.declared.service.Service.{Service}
use Rattle.vm_types.specs.declared.service.Service.TheVariants as service
use Rattle.pager_model.specs.Pager.{Pager}
use Rattle.pager_model.specs.Served.{after_served}

pub in_use : (config : Config) (a : Pager) (p : ℕ) (s : Service) → after_served config a p s answer.InUse ≡ a
in_use config a p (service.Create at pages prot) = refl
in_use config a p s = refl

pub unmapped : (config : Config) (a : Pager) (p : ℕ) (s : Service) → after_served config a p s answer.Unmapped ≡ a
unmapped config a p (service.Create at pages prot) = refl
unmapped config a p s = refl

pub lock_limit : (config : Config) (a : Pager) (p : ℕ) (s : Service) → after_served config a p s answer.LockLimit ≡ a
lock_limit config a p (service.Create at pages prot) = refl
lock_limit config a p s = refl

pub bad_limit : (config : Config) (a : Pager) (p : ℕ) (s : Service) → after_served config a p s answer.BadLimit ≡ a
bad_limit config a p (service.Create at pages prot) = refl
bad_limit config a p s = refl

pub disk_fault : (config : Config) (a : Pager) (p : ℕ) (s : Service) → after_served config a p s answer.DiskFault ≡ a
disk_fault config a p (service.Create at pages prot) = refl
disk_fault config a p s = refl

pub ruleset refusals = (in_use, unmapped, lock_limit, bad_limit, disk_fault)
