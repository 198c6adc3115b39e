pub mod KernelPlans
